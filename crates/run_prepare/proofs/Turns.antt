-- Each answer and each turn, from what is known there.
-- Assumes nothing.
use Rattle.std.specs.Prelude as prelude
use Rattle.std.specs.Prelude.{None, Some}
use mathlib.Core.Path.{◌≡◌, refl, sym, ap, subst, ◌∙◌}
use mathlib.Core.Bool.{Bool, true, false, cond}
use mathlib.Core.List.{List, [], ◌∷◌, ◌++◌, map, flat_map, append-nil}
use mathlib.Core.Option.{Option, none, some}
use Prim.Native.Nat.{ℕ, zero, suc, ◌+◌, ◌-◌, ◌*◌, ◌/◌, ◌%◌, ◌^◌, ◌≤◌, ◌<◌}
use native.Mathlib.Omega.{arith}
use native.Mathlib.Numerals.{add-one}
use borrow.Author.Tests.{ltb-true, ltb-false}
use lib.ListN.{length, get_or, set, drop, length-set, length-append, length-map}
use lib.Seq.{take-suc-set}
use Rattle.std.proofs.lemmas.List.{take-append-le}
use lib.Dec.{ltb}
use Rattle.orders.specs.Lists.{meant, All, pick}
use Rattle.orders.specs.ListLaws.{none_some, some_inj, map_append, All-at}
use Rattle.definition.specs.Words.{word, words}
use Rattle.words.specs.Bytes.{words_append, length_words, get_d_words}
use Rattle.rows_model.specs.Row.{Row, first_rows, triples}
use Rattle.rows_model.proofs.Words.{length_triples}
use Rattle.definition_laws.specs.Basics.{up_from, up_at}
use Rattle.run_model.specs.Store.{HeldNote, HeldChanged, with_row, Store, there, marked, Part, part_at, part_of, new_rows, placed_parts}
use Rattle.rows_syntax_node.specs.Promises.{Appended}
use Rattle.run_annotations.specs.Notes.{notes_of}
use Rattle.run_annotations.specs.Promises as annotations
use Rattle.run_annotations.specs.Promises.{note_in, taken}
use Rattle.run_tree_store.specs.Stored.{stored, stored_first}
use Rattle.run_tree_store.specs.Promises as tree
use Rattle.run_prepare.specs.Parts.{notes_in}
use Rattle.run_prepare.specs.declared.Prepared.{Prepared}
use Rattle.run_prepare.specs.Yields.{came_in, came_same, new_notes, part_sizes, prepared_by, notes_from, notes_with, part_in, new_rows_append, part_sizes_append, new_notes_append, rows_over, notes_over, none_over, Few, within, over_more}
use Rattle.run_prepare.specs.Bounds.{end_row_lem}
use Rattle.run_prepare.specs.Promises.{NotesAlong, Behind, Came, ElementPrepared, ElementsPrepared}

-- ── The notes of one element ────────────────────────────────────────────────────────────────────────────────

module _ {marks first : List ℕ} {e size at : ℕ} {old : List ℕ} {c : ℕ} {out : List ℕ} {r : prelude.Option ℕ} where
  along : {notes : List HeldNote} (l : List HeldNote) → notes_with marks first notes e size ≡ l → r ≡ taken 1024 (c + length l) → (c + length l ≤ 1024 → notes_of (c + length l) out ≡ notes_of c old ++ map (λ n. with_row n (at + n.row)) l)
      → NotesAlong marks first notes e size at old c out r
  along l g p q = record { answer = rw g p; notes = rw g q }

  module _ {o : prelude.Option ℕ} (v : meant o ≡ there (get_or marks e 0)) where
    pub notes_first : {notes : List HeldNote} → o ≡ None → annotations.NotesTaken first (e + 1) (e + 1 + size) at 1024 old c out r → NotesAlong marks first notes e size at old c out r
    unfolding notes_with
    notes_first {notes} z t = along _ (go (get_or marks e 0) (rw z at v)) t.answer t.notes
      where
        go : (k : ℕ) → none ≡ there k → notes_from first notes e size k ≡ notes_from first notes e size 0
        go zero w = refl
        go (suc k) w = none_some w

    pub notes_now : {held : List ℕ} {m : ℕ} → o ≡ Some m → annotations.NotesTaken held m (m + size) at 1024 old c out r → NotesAlong marks first (notes_in held) e size at old c out r
    unfolding notes_with
    notes_now {held} {m} z t = along _ (go (get_or marks e 0) (rw z at v)) t.answer t.notes
      where
        go : (k : ℕ) → some m ≡ there k → notes_from first (notes_in held) e size k ≡ pick (note_in m (m + size)) (notes_in held)
        go zero w = none_some (sym w)
        go (suc k) w = rw (some_inj w)

-- ── What one element yields ─────────────────────────────────────────────────────────────────────────────────

-- the notes at the rows of an element, by their number
part_notes : (s : Store) (m size : ℕ) → size ≡ length (part_at s m).rows → (part_at s m).notes ≡ pick (note_in m (m + size)) s.notes
unfolding part_at
part_notes s m size h = ap (λ (i : ℕ). pick (note_in m i) s.notes) (end_row_lem s m ∙ ap (λ (i : ℕ). m + i) (sym h))

module _ (rows : List ℕ) (n : ℕ) (source marks first : List ℕ) (notes : List HeldNote) (e : ℕ) where
  -- the notes that element e yields are those of its rows
  notes_yielded : (text : List ℕ) (changed₀ changed : List HeldChanged) (size : ℕ) → e < length marks → size ≡ length (part_in rows n source marks first notes text changed₀ changed e).rows
      → (part_in rows n source marks first notes text changed₀ changed e).notes ≡ notes_with marks first notes e size
  unfolding part_of marked stored stored_first notes_with
  notes_yielded text changed₀ changed size b = go (get_or marks e 0)
    where
      F : Store
      F = stored_first text (length marks) source (notes_in first) changed₀

      S : Store
      S = stored text n rows marks notes changed

      chosen : Option ℕ → Part
      chosen o = elim o as (λ o. Part) [ none ↦ part_at F (get_or F.marks e 0) | some m ↦ part_at S m ]

      go : (x : ℕ) → size ≡ length (chosen (there x)).rows → (chosen (there x)).notes ≡ notes_from first notes e size x
      go zero h =
          let g : get_or (up_from 1 (length marks)) e 0 ≡ e + 1 = omega (arith, up_at 1 (length marks) e b) in
          part_notes F (get_or F.marks e 0) size h ∙ ap (λ (i : ℕ). pick (note_in i (i + size)) (notes_in first)) g
      go (suc m) h = part_notes S (suc m) size h

  module _ (run : List ℕ) (P : tree.Prepared rows n source marks e run) (text : List ℕ) (changed₀ changed : List HeldChanged) where
    abbrev part : Part
    part = part_in rows n source marks first notes text changed₀ changed e

    rows_told_lem : triples text run ≡ part.rows
    rows_told_lem = P.told text (notes_in first) notes changed₀ changed

    rows_sized : length run / 3 ≡ length part.rows
    rows_sized = sym (length_triples text run) ∙ ap length rows_told_lem

    notes_told : e < length marks → part.notes ≡ notes_with marks first notes e (length run / 3)
    notes_told b = notes_yielded text changed₀ changed (length run / 3) b rows_sized

-- ── The answer for one element ──────────────────────────────────────────────────────────────────────────────

-- a full slice tells that there are more notes
full_many : (n : ℕ) → None ≡ taken 1024 n → 1024 < n
unfolding taken
full_many n = go (ltb 1024 n) refl
  where
    go : (b : Bool) → ltb 1024 n ≡ b → None ≡ cond b None (Some n) → 1024 < n
    go true e h = ltb-true 1024 n e
    go false e h = let z : ◌≡◌ {A = ℕ} 0 1 = cc in absurd (omega arith)

-- a count is the number of notes
count_few : (y n : ℕ) → Some y ≡ taken 1024 n → (y ≡ n) × (n ≤ 1024)
unfolding taken
count_few y n = go (ltb 1024 n) refl
  where
    go : (b : Bool) → ltb 1024 n ≡ b → Some y ≡ cond b None (Some n) → (y ≡ n) × (n ≤ 1024)
    go true e h = let z : ◌≡◌ {A = ℕ} 0 1 = cc in absurd (omega arith)
    go false e h = ((cc), ltb-false 1024 n e)

-- nothing is told of what is too many
no_parts : {X : Type 0} {m c : ℕ} → None ≡ came_in m c → X
no_parts h = let z : ◌≡◌ {A = ℕ} 0 1 = cc in absurd (omega arith)

-- a run is whole rows
pub run_whole : {rows : List ℕ} {n : ℕ} {source marks : List ℕ} {e : ℕ} {run : List ℕ} → tree.Prepared rows n source marks e run → length run % 3 ≡ 0
run_whole P = omega (arith, P.long [])

-- and has room
pub run_fits : {rows : List ℕ} {n : ℕ} {source marks : List ℕ} {e : ℕ} {run : List ℕ} (m : ℕ) (old : List ℕ) → tree.Prepared rows n source marks e run → m ≤ 4096 → 12288 ≤ length old → length run / 3 ≤ 4096 - m → 3 * m + length run ≤ length old
run_fits m old P h b g = omega (arith, run_whole P)

module _ (rows : List ℕ) (n : ℕ) (source marks first : List ℕ) (notes : List HeldNote) (e at : ℕ) (old : List ℕ) (m : ℕ) (held : List ℕ) (c : ℕ) (run : List ℕ)
    (P : tree.Prepared rows n source marks e run) (h : m ≤ 4096) where
  -- no room for its rows
  pub element_long : 4096 - m < length run / 3 → ElementPrepared rows n source marks first notes e at old m held c old held None
  element_long g = record {
    part = λ text changed₀ changed. record {
      answer = rows_over _ _ (omega (arith, rows_sized rows n source marks first notes e run P text changed₀ changed));
      rows = λ m' c'. no_parts;
      notes = λ m' c'. no_parts;
    };
  }

  module _ (old' held' : List ℕ) (end : ℕ) (r : prelude.Option ℕ) (b : e < length marks) (g : length run / 3 ≤ 4096 - m)
      (A : Appended old m run old' end) (N : NotesAlong marks first notes e (length run / 3) (at + m) held c held' r) where
    abbrev with_notes : List HeldNote
    with_notes = notes_with marks first notes e (length run / 3)

    module _ (text : List ℕ) (changed₀ changed : List HeldChanged) where
      abbrev with_part : Part
      with_part = part_in rows n source marks first notes text changed₀ changed e

      notes_same : with_notes ≡ with_part.notes
      notes_same = sym (notes_told rows n source marks first notes e run P text changed₀ changed b)

      rows_many : length run / 3 ≡ length with_part.rows
      rows_many = rows_sized rows n source marks first notes e run P text changed₀ changed

      full : 1024 < c + length with_notes → Behind text with_part (at + m) old m held c old' held' None
      full o = record { answer = notes_over _ _ (omega (arith, ap length notes_same)); rows = λ m' c'. no_parts; notes = λ m' c'. no_parts }

      came : (y : ℕ) → y ≡ c + length with_notes → c + length with_notes ≤ 1024 → Behind text with_part (at + m) old m held c old' held' (came_in end y)
      came y e o = record {
        answer = rw (A.count, e, notes_same, rows_many) (none_over _ _ (omega (arith, rows_many)) (omega (arith, ap length notes_same)));
        rows = λ m' c' z. let f : m' ≡ end = sym (came_same z).0 in rw f (A.told text ∙ ap (λ (l : List Row). first_rows text m old ++ l) (rows_told_lem rows n source marks first notes _ run P text changed₀ changed));
        notes = λ m' c' z. let f : c' ≡ c + length with_notes = sym (came_same z).1 ∙ e in rw f (N.notes o ∙ ap (λ (l : List HeldNote). notes_of c held ++ map (λ n. with_row n (at + m + n.row)) l) notes_same);
      }

    -- no room for its notes
    pub element_full : r ≡ None → ElementPrepared rows n source marks first notes e at old m held c old' held' None
    element_full z = record { part = λ text changed₀ changed. full text changed₀ changed (full_many (c + length with_notes) (sym z ∙ N.answer)) }

    -- it came in
    pub element_came : (y : ℕ) → r ≡ Some y → ElementPrepared rows n source marks first notes e at old m held c old' held' (came_in end y)
    element_came y z = let f = count_few y (c + length with_notes) (sym z ∙ N.answer) in record { part = λ text changed₀ changed. came text changed₀ changed y f.0 f.1 }

-- ── One part more ───────────────────────────────────────────────────────────────────────────────────────────

new_rows_one : (y : Part) → new_rows (y ∷ []) ≡ y.rows
unfolding new_rows flat_map
new_rows_one y = append-nil y.rows

new_notes_one : (at : ℕ) (y : Part) → new_notes at (y ∷ []) ≡ map (λ n. with_row n (at + n.row)) y.notes
unfolding new_notes placed_parts flat_map
new_notes_one at y = append-nil _

part_sizes_one : (y : Part) → part_sizes (y ∷ []) ≡ length y.rows ∷ []
unfolding part_sizes
part_sizes_one y = refl

-- no part
came_none : (text : List ℕ) (at : ℕ) (prepared sizes incoming : List ℕ) → Came text [] at prepared sizes incoming 0 0
unfolding new_rows new_notes part_sizes placed_parts flat_map notes_of
came_none text at prepared sizes incoming = record { many = refl; noted = refl; few_rows = omega arith; few_notes = omega arith; rows = refl; sizes = refl; notes = refl }

module _ {text : List ℕ} {new : List Part} {at : ℕ} {prepared sizes incoming : List ℕ} {m c : ℕ} (C : Came text new at prepared sizes incoming m c) where
  -- one more
  came_more : (y : Part) (prepared' incoming' : List ℕ) (end z : ℕ) → Behind text y (at + m) prepared m incoming c prepared' incoming' (came_in end z) → length new < length sizes
      → Came text (new ++ (y ∷ [])) at prepared' (set sizes (length new) (end - m)) incoming' end z
  came_more y prepared' incoming' end z B h =
      let f : Few (m + length y.rows) (c + length y.notes) end z = within _ _ _ _ B.answer in
      let R : new_rows (new ++ (y ∷ [])) ≡ new_rows new ++ y.rows = new_rows_append new (y ∷ []) ∙ ap (λ (l : List Row). new_rows new ++ l) (new_rows_one y) in
      let N : new_notes at (new ++ (y ∷ [])) ≡ new_notes at new ++ map (λ n. with_row n (at + m + n.row)) y.notes =
      new_notes_append at new (y ∷ []) ∙ (ap (λ (i : ℕ). new_notes at new ++ new_notes (at + i) (y ∷ [])) (sym C.many) ∙ ap (λ (l : List HeldNote). new_notes at new ++ l) (new_notes_one (at + m) y)) in
      let w : end - m ≡ length y.rows = omega (arith, f.rows) in
      record {
        many = rw (R, length-append (new_rows new) y.rows) (omega (arith, f.rows, C.many));
        noted = rw (N, length-append (new_notes at new) (map (λ n. with_row n (at + m + n.row)) y.notes), length-map y.notes (λ n. with_row n (at + m + n.row))) (omega (arith, f.notes, C.noted));
        few_rows = omega (arith, f.rows, f.few_rows);
        few_notes = omega (arith, f.notes, f.few_notes);
        rows = B.rows end z refl ∙ (ap (λ (l : List Row). l ++ y.rows) C.rows ∙ sym R);
        sizes = rw (length-append new (y ∷ []), add-one (length new), take-suc-set sizes (length new) (end - m) h, C.sizes, part_sizes_append new (y ∷ []), part_sizes_one y, w);
        notes = B.notes end z refl ∙ (ap (λ (l : List HeldNote). l ++ map (λ n. with_row n (at + m + n.row)) y.notes) C.notes ∙ sym N);
      }

  -- what stands behind the sizes does not matter
  came_longer : (rest : List ℕ) → length new ≤ length sizes → Came text new at prepared (sizes ++ rest) incoming m c
  came_longer rest h = record { many = C.many; noted = C.noted; few_rows = C.few_rows; few_notes = C.few_notes; rows = C.rows; sizes = take-append-le (length new) sizes rest h ∙ C.sizes; notes = C.notes }

  -- one more is too many
  came_over : (y : Part) (rest : List Part) → None ≡ prepared_by (m + length y.rows) (c + length y.notes) → None ≡ prepared_by (length (new_rows (new ++ (y ∷ rest)))) (length (new_notes at (new ++ (y ∷ rest))))
  came_over y rest h =
      let R : length (new_rows (y ∷ rest)) ≡ length y.rows + length (new_rows rest) = ap length (new_rows_append (y ∷ []) rest) ∙ rw (new_rows_one y) (length-append y.rows (new_rows rest)) in
      let i : ℕ = at + length (new_rows new) in
      let one : List HeldNote = map (λ n. with_row n (i + n.row)) y.notes in
      let more : List HeldNote = new_notes (i + length (new_rows (y ∷ []))) rest in
      let N : length (new_notes i (y ∷ rest)) ≡ length y.notes + length more =
      ap length (new_notes_append i (y ∷ []) rest ∙ ap (λ (l : List HeldNote). l ++ more) (new_notes_one i y)) ∙ (length-append one more ∙ ap (λ (j : ℕ). j + length more) (length-map y.notes (λ n. with_row n (i + n.row)))) in
      over_more _ _ _ _ h
      (rw (new_rows_append new (y ∷ rest), length-append (new_rows new) (new_rows (y ∷ rest))) (omega (arith, C.many)))
      (rw (new_notes_append at new (y ∷ rest), length-append (new_notes at new) (new_notes i (y ∷ rest))) (omega (arith, C.noted)))

-- ── The listed elements ─────────────────────────────────────────────────────────────────────────────────────

module _ (b : List ℕ) (i : ℕ) where
  -- the first i and one more
  words_one : words (i + 1) b ≡ words i b ++ (word (drop (4 * i) b) ∷ [])
  unfolding words
  words_one = words_append i 1 (i + 1) b refl

  -- the first i, one more, and the rest
  words_rest : (count : ℕ) → i < count → words count b ≡ words i b ++ (word (drop (4 * i) b) ∷ words (count - (i + 1)) (drop 4 (drop (4 * i) b)))
  unfolding words
  words_rest count h =
      let e : count - i ≡ suc (count - (i + 1)) = omega arith in
      words_append i (count - i) count b (omega arith) ∙ rw e

  -- an element that is listed is one of the batch
  pub listed_low : (marks : List ℕ) (count e : ℕ) → i < count → All (λ e. e < length marks) (words count b) → (e ≡ word (drop (4 * i) b)) × (e < 2 ^ 32) → e < length marks
  listed_low marks count e h a v =
      let f : get_or (words count b) i 0 ≡ e = get_d_words count b i h ∙ sym v.0 in
      omega (arith, f, All-at (λ x. x < length marks) 0 (words count b) i (omega (arith, length_words count b)) a)

-- what came in with an element is few
module _ {rows : List ℕ} {n : ℕ} {source marks first : List ℕ} {notes : List HeldNote} {e at : ℕ} {old : List ℕ} {m : ℕ} {held : List ℕ} {c : ℕ} {old' held' : List ℕ} {r : prelude.Option Prepared} {end y : ℕ}
    (E : ElementPrepared rows n source marks first notes e at old m held c old' held' r) (z : r ≡ came_in end y) where
  few : Few (m + length (part_in rows n source marks first notes [] [] [] e).rows) (c + length (part_in rows n source marks first notes [] [] [] e).notes) end y
  few = within _ _ _ _ (sym z ∙ (E.part [] [] []).answer)

  pub element_rises : m ≤ end
  element_rises = omega (arith, few.rows)

  pub element_low : end ≤ 4096
  element_low = omega (arith, few.rows, few.few_rows)

  pub element_noted : y ≤ 1024
  element_noted = omega (arith, few.notes, few.few_notes)

module _ (rows : List ℕ) (n : ℕ) (source marks first : List ℕ) (notes : List HeldNote) where
  module _ (b : List ℕ) (count at : ℕ) (prepared₀ sizes₀ incoming₀ : List ℕ) where
    -- what the first i elements yield has come in
    pub record Preparing (prepared sizes incoming : List ℕ) (i m c : ℕ) : Type 0 where
      pub inside : i ≤ count
      pub few_rows : m ≤ 4096
      pub few_notes : c ≤ 1024
      pub long_rows : length prepared ≡ length prepared₀
      pub long_sizes : length sizes ≡ length sizes₀
      pub long_notes : length incoming ≡ length incoming₀
      pub came : (text : List ℕ) (changed₀ changed : List HeldChanged) → Came text (map (part_in rows n source marks first notes text changed₀ changed) (words i b)) at prepared sizes incoming m c

    pub preparing_start : Preparing prepared₀ sizes₀ incoming₀ 0 0 0
    unfolding words
    preparing_start = record {
      inside = omega arith;
      few_rows = omega arith;
      few_notes = omega arith;
      long_rows = refl;
      long_sizes = refl;
      long_notes = refl;
      came = λ text changed₀ changed. came_none text at prepared₀ sizes₀ incoming₀;
    }

    module _ (prepared sizes incoming : List ℕ) (i m c : ℕ) (v : Preparing prepared sizes incoming i m c) where
      pub preparing_done : (rest : List ℕ) → count ≤ length sizes₀ → count ≤ i → ElementsPrepared rows n source marks first notes (words count b) at prepared (sizes ++ rest) incoming (came_in m c)
      preparing_done rest room h =
          let e : i ≡ count = omega (arith, v.inside) in
          record {
            parts = λ text changed₀ changed.
                let part : ℕ → Part = part_in rows n source marks first notes text changed₀ changed in
                let C : Came text (map part (words count b)) at prepared sizes incoming m c = rw e at (v.came text changed₀ changed) in
                let D = came_longer C rest (omega (arith, length-map (words count b) part, length_words count b, v.long_sizes)) in
                record {
                  answer = none_over m c v.few_rows v.few_notes ∙ rw (← C.many, ← C.noted);
                  came = λ m' c' z. let f : m' ≡ m = sym (came_same z).0 in let g : c' ≡ c = sym (came_same z).1 in rw (f, g) D;
                };
          }

      module _ (e : ℕ) (h : i < count) (w : (e ≡ word (drop (4 * i) b)) × (e < 2 ^ 32)) (prepared' incoming' : List ℕ) (r : prelude.Option Prepared)
          (E : ElementPrepared rows n source marks first notes e at prepared m incoming c prepared' incoming' r) where
        pub preparing_over : (sizes' : List ℕ) → r ≡ None → ElementsPrepared rows n source marks first notes (words count b) at prepared' sizes' incoming' None
        preparing_over sizes' z = record {
          parts = λ text changed₀ changed.
              let part : ℕ → Part = part_in rows n source marks first notes text changed₀ changed in
              let rest : List ℕ = words (count - (i + 1)) (drop 4 (drop (4 * i) b)) in
              let s : map part (words count b) ≡ map part (words i b) ++ (part e ∷ map part rest) =
              ap (map part) (words_rest b i count h) ∙ (map_append part (words i b) (word (drop (4 * i) b) ∷ rest) ∙ rw (← w.0)) in
              record {
                answer = rw s (came_over (v.came text changed₀ changed) (part e) (map part rest) (sym z ∙ (E.part text changed₀ changed).answer));
                came = λ m' c'. no_parts;
              };
        }

        pub preparing_next : (end y : ℕ) → r ≡ came_in end y → count ≤ length sizes₀ → length prepared' ≡ length prepared → length incoming' ≡ length incoming → Preparing prepared' (set sizes i (end - m)) incoming' (i + 1) end y
        preparing_next end y z room p q =
            record {
              inside = omega arith;
              few_rows = element_low E z;
              few_notes = element_noted E z;
              long_rows = p ∙ v.long_rows;
              long_sizes = length-set sizes i (end - m) ∙ v.long_sizes;
              long_notes = q ∙ v.long_notes;
              came = λ text changed₀ changed.
                  let part : ℕ → Part = part_in rows n source marks first notes text changed₀ changed in
                  let new : List Part = map part (words i b) in
                  let l : length new ≡ i = length-map (words i b) part ∙ length_words i b in
                  let s : map part (words (i + 1) b) ≡ new ++ (part e ∷ []) = ap (map part) (words_one b i) ∙ (map_append part (words i b) (word (drop (4 * i) b) ∷ []) ∙ rw (← w.0)) in
                  rw s (subst (λ (j : ℕ). Came text (new ++ (part e ∷ [])) at prepared' (set sizes j (end - m)) incoming' end y) l (came_more (v.came text changed₀ changed) (part e) prepared' incoming' end y (rw z at (E.part text changed₀ changed)) (omega (arith, l, v.long_sizes))));
            }

-- the same of what is held
module _ {rows : List ℕ} {n : ℕ} {source marks first : List ℕ} {notes : List HeldNote} {b : List ℕ} {count at : ℕ} {prepared₀ sizes₀ incoming₀ prepared sizes incoming : List ℕ} {i : ℕ} {held : Prepared}
    (v : Preparing rows n source marks first notes b count at prepared₀ sizes₀ incoming₀ prepared sizes incoming i held.rows held.notes) where
  pub prepared_done : (rest : List ℕ) → count ≤ length sizes₀ → count ≤ i → ElementsPrepared rows n source marks first notes (words count b) at prepared (sizes ++ rest) incoming (Some held)
  prepared_done rest = preparing_done rows n source marks first notes b count at prepared₀ sizes₀ incoming₀ prepared sizes incoming i held.rows held.notes v rest

  module _ {e : ℕ} (w : (e ≡ word (drop (4 * i) b)) × (e < 2 ^ 32)) {prepared' incoming' : List ℕ} {r : prelude.Option Prepared}
      (E : ElementPrepared rows n source marks first notes e at prepared held.rows incoming held.notes prepared' incoming' r) (h : i < count) where
    pub prepared_over : {sizes' : List ℕ} {r' : prelude.Option Prepared} → r ≡ None → r' ≡ None → ElementsPrepared rows n source marks first notes (words count b) at prepared' sizes' incoming' r'
    prepared_over {sizes'} z y = rw y (preparing_over rows n source marks first notes b count at prepared₀ sizes₀ incoming₀ prepared sizes incoming i held.rows held.notes v e h w prepared' incoming' r E sizes' z)

    pub prepared_next : {next : Prepared} → r ≡ Some next → count ≤ length sizes₀ → length prepared' ≡ length prepared → length incoming' ≡ length incoming
        → Preparing rows n source marks first notes b count at prepared₀ sizes₀ incoming₀ prepared' (set sizes i (next.rows - held.rows)) incoming' (i + 1) next.rows next.notes
    prepared_next {next} z = preparing_next rows n source marks first notes b count at prepared₀ sizes₀ incoming₀ prepared sizes incoming i held.rows held.notes v e h w prepared' incoming' r E next.rows next.notes z
