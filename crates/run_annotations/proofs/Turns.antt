-- The loops: for each its invariant, that it holds at the start, after a turn, and what it says at the end.
-- Assumes nothing.
use Rattle.std.specs.Prelude as prelude
use Rattle.std.specs.Prelude.{None, Some}
use mathlib.Core.Path.{◌≡◌, refl, sym, ap, subst, ◌∙◌}
use mathlib.Core.List.{List, [], ◌∷◌, ◌++◌, map, append-nil, append_assoc}
use mathlib.Core.Option
use mathlib.Core.Option.{Option, none, some}
use Prim.Native.Nat.{ℕ, suc, ◌+◌, ◌-◌, ◌*◌, ◌/◌, ◌^◌, ◌≤◌, ◌<◌}
use native.Mathlib.Omega.{arith}
use native.Mathlib.Numerals.{add-one}
use native.Mathlib.Nat.{add-zero}
use borrow.Author.Tests.{lt-ltb, le-ltb}
use lib.ListN.{length, get_or, set, take, drop, length-set, length-append, length-map}
use lib.Seq.{paste, paste-zero, paste-suc, take-paste, drop-cons, take_all, drop-set-lt, drop-drop, length-take-le, get_or-take, get_or-drop}
use Rattle.orders.specs.Lists.{All, more, pick}
use Rattle.orders.specs.Tree.{shift}
use Rattle.orders.specs.ListLaws.{zone_before, zone_inside, zone_after, map_append, All-at}
use Rattle.orders.proofs.TreeLaws.{shift_before, shift_inside, shift_after}
use Rattle.definition_laws.specs.Basics.{map_All, get_d_map}
use Rattle.rows_model.specs.Place.{in_run}
use Rattle.run_model.specs.Store.{HeldNote, HeldChanged, with_row, at_row, put_in}
use Rattle.run_annotations.specs.Notes.{note_words, notes_of, notes_in, note_at, length_notes_of, note_row, note_words_lem, notes_to, note_among, notes_added, drop_note, length_note}
use Rattle.run_annotations.specs.Changed.{changed_word, changed_of, changed_in, changed_read, length_changed_in, changed_to, changed_added, changed_put}
use Rattle.run_annotations.specs.Promises.{Moved, moved_changed, RowMoved, RowsMoved, moved_note, NoteMoved, NotesMoved, note_in, placed_note, NoteTaken, taken, NotesTaken, RowsAdded}
use Rattle.run_annotations.specs.Places.{part_rows, length_part_rows}

-- ── Lists ───────────────────────────────────────────────────────────────────────────────────────────────────

-- what is picked of a list with one element more
pick_more : {X Y : Type 0} (f : X → Option Y) (l : List X) (x : X) → pick f (l ++ (x ∷ [])) ≡ pick f l ++ more (f x) []
unfolding pick
pick_more f [] x = refl
pick_more {X} {Y} f (y ∷ l) x = go (f y) (pick_more f l x)
  where
    go : (o : Option Y) → pick f (l ++ (x ∷ [])) ≡ pick f l ++ more (f x) [] → more o (pick f (l ++ (x ∷ []))) ≡ more o (pick f l) ++ more (f x) []
    go none e = e
    go (some z) e = ap {B = List Y} (λ r. z ∷ r) e

-- ── Rows moved ──────────────────────────────────────────────────────────────────────────────────────────────

module _ {p q m x : ℕ} where
  pub moved_before : x < p → Moved p q m x (Some x)
  moved_before h = record { row = sym (shift_before p q m x h); low = λ y e. let z : x ≡ y = cc in omega arith }

  pub moved_inside : p ≤ x → x < q → Moved p q m x None
  moved_inside h k = record { row = sym (shift_inside p q m x h k); low = λ y e. let z : ◌≡◌ {A = ℕ} 0 1 = cc in absurd (omega arith) }

  pub moved_after : p ≤ x → q ≤ x → Moved p q m x (Some (x + m - (q - p)))
  moved_after h k = record { row = sym (shift_after p q m x h k); low = λ y e. let z : x + m - (q - p) ≡ y = cc in omega arith }

-- ── Changed elements ────────────────────────────────────────────────────────────────────────────────────────

-- the rule number of a word is in bounds
pub rule_room : (w : ℕ) {rule : ℕ} → rule ≡ (changed_of w).rule → w < 2 ^ 32 → rule < 32768
unfolding changed_of
rule_room w e h = omega arith

-- what becomes of a changed element is what becomes of its row
moved_by : (l : List ℕ) (i p q m : ℕ) {w x : ℕ} (o : Option ℕ) → w ≡ get_or l i 0 → x ≡ (changed_of w).row → shift p q m x ≡ o → moved_changed p q m (changed_of (get_or l i 0)) ≡ Option.map (at_row (changed_of w)) o
moved_by l i p q m {w} {x} o e f g = rw (← e, ← f, g)

module _ (l : List ℕ) (i : ℕ) {p q m w x : ℕ} {o : prelude.Option ℕ} (e : (w ≡ get_or l i 0) × (w < 2 ^ 32)) (f : x ≡ (changed_of w).row) (v : Moved p q m x o) where
  -- the row that it comes to has its bits
  pub row_room : {y : ℕ} → o ≡ Some y → (changed_of (get_or l i 0)).row < 2 ^ 16 → m < 2 ^ 16 → y < 131072
  row_room {y} z h k = let s : x < 2 ^ 16 = rw (f, e.0) h in let t = v.low y z in omega arith

  -- it gives way
  pub row_gone : {r : ℕ} → o ≡ None → r ≤ i → RowMoved l i r p q m l r
  row_gone {r} z h = record {
    kept = rw (moved_by l i p q m none e.0 f (sym (rw z at v.row))) (sym (append-nil (changed_in r l)));
    rest = refl;
    long = refl;
    most = omega arith;
  }

  -- or is written behind the first r
  pub row_kept : {r y rule n : ℕ} → o ≡ Some y → r ≤ i → i < length l → rule ≡ (changed_of w).rule → (n ≡ changed_word (put_in rule y)) × (n < 2 ^ 32) → y < 131072 → RowMoved l i r p q m (set l r n) (r + 1)
  unfolding at_row
  row_kept {r} {y} {rule} {n} z h k g u b =
      let s : moved_changed p q m (changed_of (get_or l i 0)) ≡ some (changed_of n) = moved_by l i p q m (some y) e.0 f (sym (rw z at v.row)) ∙ rw (u.0, changed_read (put_in rule y) b, g) in
      record {
        kept = rw (add-one r, changed_added l r n (omega arith), s);
        rest = drop-set-lt (suc i) l r n (omega arith);
        long = length-set l r n;
        most = omega arith;
      }

-- the first i changed elements are moved, and r of them are left
pub record Moving (l : List ℕ) (k p q m : ℕ) (out : List ℕ) (i r : ℕ) : Type 0 where
  pub kept : changed_in r out ≡ pick (moved_changed p q m) (changed_in i l)
  pub rest : drop i out ≡ drop i l
  pub long : length out ≡ length l
  pub most : r ≤ i
  pub inside : i ≤ k

pub moving_start : (l : List ℕ) (k p q m : ℕ) → Moving l k p q m l 0 0
unfolding pick changed_in
moving_start l k p q m = record { kept = refl; rest = refl; long = refl; most = omega arith; inside = omega arith }

-- a row among the first k changed elements
changed_small : (l : List ℕ) (k i : ℕ) → i < k → k ≤ length l → All (λ c. c.row < 2 ^ 16) (changed_in k l) → (changed_of (get_or l i 0)).row < 2 ^ 16
unfolding changed_in
changed_small l k i h b a =
    rw (← get_or-take k l i 0 h) (All-at (λ x. (changed_of x).row < 2 ^ 16) 0 (take k l) i (omega (arith, length-take-le k l b)) (map_All (λ c. c.row < 2 ^ 16) changed_of (take k l) a))

module _ {l : List ℕ} {k p q m : ℕ} {out : List ℕ} {i r : ℕ} (v : Moving l k p q m out i r) where
  -- one that the loop has not come to yet
  unmoved : get_or out i 0 ≡ get_or l i 0
  unmoved =
      ap (λ (j : ℕ). get_or out j 0) (sym (add-zero i)) ∙ (sym (get_or-drop i out 0 0) ∙ (ap (λ (d : List ℕ). get_or d 0 0) v.rest ∙ (get_or-drop i l 0 0 ∙ ap (λ (j : ℕ). get_or l j 0) (add-zero i))))

  pub moving_small : i < k → k ≤ length l → All (λ c. c.row < 2 ^ 16) (changed_in k l) → (changed_of (get_or out i 0)).row < 2 ^ 16
  moving_small h b a = rw unmoved (changed_small l k i h b a)

  pub moving_next : {out' : List ℕ} {r' : ℕ} → i < k → k ≤ length l → RowMoved out i r p q m out' r' → Moving l k p q m out' (i + 1) r'
  moving_next h b w = record {
    kept = rw (add-one i, changed_to l i (omega arith), pick_more (moved_changed p q m) (changed_in i l) (changed_of (get_or l i 0)), ← v.kept, ← unmoved) w.kept;
    rest = rw (add-one i, w.rest, ← add-one i, ← drop-drop 1 i out, ← drop-drop 1 i l, v.rest);
    long = w.long ∙ v.long;
    most = omega (arith, w.most);
    inside = omega arith;
  }

  pub moving_done : k ≤ i → k ≤ length l → RowsMoved l k p q m out r
  moving_done h b =
      let e : i ≡ k = omega (arith, v.inside) in
      record {
        rows = rw (← e) v.kept;
        count = rw (← e, ← v.kept) (sym (length_changed_in r out (omega (arith, v.most, v.long))));
        most = omega (arith, v.most);
      }

-- ── Notes ───────────────────────────────────────────────────────────────────────────────────────────────────

pub kept_note : (l old : List ℕ) (i r row : ℕ) {b c : ℕ} {out : List ℕ} → (b ≡ get_or l (3 * i + 1) 0) × (b < 2 ^ 32) → (c ≡ get_or l (3 * i + 2) 0) × (c < 2 ^ 32)
    → out ≡ paste old (3 * r) (row ∷ b ∷ c ∷ []) 3 → out ≡ paste old (3 * r) (note_words (with_row (note_at l i) row)) 3
kept_note l old i r row e f g = rw (note_words_lem l i row e.0 f.0) g

module _ (l : List ℕ) (i : ℕ) {p q m x : ℕ} {o : prelude.Option ℕ} (e : (x ≡ get_or l (3 * i) 0) × (x < 2 ^ 32)) (v : Moved p q m x o) where
  -- what becomes of a note is what becomes of its row
  note_by : {y : Option ℕ} → shift p q m x ≡ y → moved_note p q m (note_at l i) ≡ Option.map (with_row (note_at l i)) y
  note_by s = ap (λ (o : Option ℕ). Option.map (with_row (note_at l i)) o) (ap (shift p q m) (note_row l i ∙ sym e.0) ∙ s)

  pub note_room : {y : ℕ} → o ≡ Some y → get_or l (3 * i) 0 < 2 ^ 16 → m < 2 ^ 16 → y < 2 ^ 32
  note_room {y} z h k = let t = v.low y z in omega (arith, e.0)

  -- it gives way
  pub note_gone : {r : ℕ} → o ≡ None → r ≤ i → NoteMoved l i r p q m l r
  note_gone {r} z h =
      let g : moved_note p q m (note_at l i) ≡ none = note_by (sym (rw z at v.row)) in
      record { kept = rw g (sym (append-nil (notes_of r l))); rest = refl; long = refl; most = omega arith }

  -- or is written behind the first r, at the row y
  pub note_kept : {r y : ℕ} {out : List ℕ} → o ≡ Some y → r ≤ i → 3 * i + 3 ≤ length l → out ≡ paste l (3 * r) (note_words (with_row (note_at l i) y)) 3 → NoteMoved l i r p q m out (r + 1)
  note_kept {r} {y} z h k w =
      let n : HeldNote = with_row (note_at l i) y in
      let b : 3 * r + 3 ≤ length l = omega arith in
      let g : moved_note p q m (note_at l i) ≡ some n = note_by (sym (rw z at v.row)) in
      record {
        kept = rw (w, g) (notes_added l r n b);
        rest = rw w (drop_note l r n b i h);
        long = rw w (length_note l r n b);
        most = omega arith;
      }

-- a row among the first k notes
row_small : (l : List ℕ) (k i : ℕ) → i < k → All (λ n. n.row < 2 ^ 16) (notes_of k l) → (note_at l i).row < 2 ^ 16
row_small l k i h a =
    let z : HeldNote = note_at l i in
    subst (λ (n : HeldNote). n.row < 2 ^ 16) (note_among l k i z h) (All-at (λ n. n.row < 2 ^ 16) z (notes_of k l) i (omega (arith, length_notes_of k l)) a)

-- the first i notes are moved, and r of them are left
pub record MovingNotes (l : List ℕ) (k p q m : ℕ) (out : List ℕ) (i r : ℕ) : Type 0 where
  pub kept : notes_of r out ≡ pick (moved_note p q m) (notes_of i l)
  pub rest : drop (3 * i) out ≡ drop (3 * i) l
  pub long : length out ≡ length l
  pub most : r ≤ i
  pub inside : i ≤ k

pub notes_start : (l : List ℕ) (k p q m : ℕ) → MovingNotes l k p q m l 0 0
unfolding pick notes_of
notes_start l k p q m = record { kept = refl; rest = refl; long = refl; most = omega arith; inside = omega arith }

module _ {l : List ℕ} {k p q m : ℕ} {out : List ℕ} {i r : ℕ} (v : MovingNotes l k p q m out i r) where
  -- a note that the loop has not come to yet
  note_unmoved : note_at out i ≡ note_at l i
  unfolding note_at
  note_unmoved = rw v.rest

  pub notes_small : i < k → All (λ n. n.row < 2 ^ 16) (notes_of k l) → get_or out (3 * i) 0 < 2 ^ 16
  notes_small h a = rw (← note_row out i, note_unmoved) (row_small l k i h a)

  pub notes_next : {out' : List ℕ} {r' : ℕ} → i < k → NoteMoved out i r p q m out' r' → MovingNotes l k p q m out' (i + 1) r'
  notes_next h w =
      let e : 3 * suc i ≡ 3 * i + 3 = omega arith in
      record {
        kept = rw (add-one i, notes_to l i, pick_more (moved_note p q m) (notes_of i l) (note_at l i), ← v.kept, ← note_unmoved) w.kept;
        rest = rw (add-one i, w.rest, e, ← drop-drop 3 (3 * i) out, ← drop-drop 3 (3 * i) l, v.rest);
        long = w.long ∙ v.long;
        most = omega (arith, w.most);
        inside = omega arith;
      }

  pub notes_done : k ≤ i → NotesMoved l k p q m out r
  notes_done h =
      let e : i ≡ k = omega (arith, v.inside) in
      record {
        notes = rw (← e) v.kept;
        count = rw (← e, ← v.kept) (sym (length_notes_of r out));
        most = omega (arith, v.most);
      }

-- ── The notes that come in with a part ──────────────────────────────────────────────────────────────────────

module _ (l : List ℕ) (i p q at : ℕ) where
  -- what becomes of the note is what becomes of its row
  placed_by : (x : ℕ) (o : Option ℕ) → x ≡ get_or l (3 * i) 0 → in_run p q x ≡ o → placed_note p q at (note_at l i) ≡ Option.map (λ row. with_row (note_at l i) (at + row)) o
  placed_by x o e g = ap (λ (y : Option ℕ). Option.map (λ row. with_row (note_at l i) (at + row)) y) (ap (in_run p q) (note_row l i ∙ sym e) ∙ g)

  placed_inside : (x : ℕ) → x ≡ get_or l (3 * i) 0 → p ≤ x → x < q → placed_note p q at (note_at l i) ≡ some (with_row (note_at l i) (at + (x - p)))
  unfolding in_run
  placed_inside x e a b = placed_by x (some (x - p)) e (zone_inside x p q none (some (x - p)) none a b)

module _ {l : List ℕ} {i p q at most : ℕ} {old : List ℕ} {c : ℕ} where
  -- the note is elsewhere
  left_out : (x : ℕ) → x ≡ get_or l (3 * i) 0 → in_run p q x ≡ none → NoteTaken l i p q at most old c old c
  left_out x e g =
      let f : placed_note p q at (note_at l i) ≡ none = placed_by l i p q at x none e g in
      record { count = rw f (sym (add-zero c)); notes = λ b. rw f (sym (append-nil (notes_of c old))); long = refl; low = omega arith; high = omega arith }

  pub taken_before : {x : ℕ} → (x ≡ get_or l (3 * i) 0) × (x < 2 ^ 32) → x < p → NoteTaken l i p q at most old c old c
  unfolding in_run
  taken_before {x} e a = left_out x e.0 (zone_before x p q none (some (x - p)) none a)

  pub taken_after : {x : ℕ} → (x ≡ get_or l (3 * i) 0) × (x < 2 ^ 32) → p ≤ x → q ≤ x → NoteTaken l i p q at most old c old c
  unfolding in_run
  taken_after {x} e a b = left_out x e.0 (zone_after x p q none (some (x - p)) none a b)

  -- no room: it is counted
  pub taken_full : {x : ℕ} → (x ≡ get_or l (3 * i) 0) × (x < 2 ^ 32) → p ≤ x → x < q → most ≤ c → NoteTaken l i p q at most old c old (c + 1)
  taken_full {x} e a b h = record { count = rw (placed_inside l i p q at x e.0 a b) refl; notes = λ k. absurd (omega arith); long = refl; low = omega arith; high = omega arith }

  pub taken_inside : {x : ℕ} {out : List ℕ} → 3 * most ≤ length old → (x ≡ get_or l (3 * i) 0) × (x < 2 ^ 32) → p ≤ x → x < q → c < most
      → out ≡ paste old (3 * c) (note_words (with_row (note_at l i) (at + (x - p)))) 3 → NoteTaken l i p q at most old c out (c + 1)
  taken_inside {x} m e a b h w =
      let n : HeldNote = with_row (note_at l i) (at + (x - p)) in
      let k : 3 * c + 3 ≤ length old = omega arith in
      record {
        count = rw (placed_inside l i p q at x e.0 a b) refl;
        notes = λ _. rw (w, placed_inside l i p q at x e.0 a b) (notes_added old c n k);
        long = rw w (length_note old c n k);
        low = omega arith;
        high = omega arith;
      }

-- told from p on and then from `at` on, at once
placed_notes : (p q at : ℕ) (l : List HeldNote) → pick (placed_note p q at) l ≡ map (λ n. with_row n (at + n.row)) (pick (note_in p q) l)
unfolding pick with_row
placed_notes p q at [] = refl
placed_notes p q at (n ∷ l) = go (in_run p q n.row) (pick (placed_note p q at) l) (pick (note_in p q) l) (placed_notes p q at l)
  where
    go : (o : Option ℕ) (a b : List HeldNote) → a ≡ map (λ n. with_row n (at + n.row)) b → more (Option.map (λ row. with_row n (at + row)) o) a ≡ map (λ n. with_row n (at + n.row)) (more (Option.map (with_row n) o) b)
    go none a b e = e
    go (some y) a b e = ap {B = List HeldNote} (λ r. with_row n (at + y) ∷ r) e

-- the first i notes are looked at
pub record Taking (l : List ℕ) (p q at most : ℕ) (old : List ℕ) (c : ℕ) (out : List ℕ) (i n : ℕ) : Type 0 where
  pub count : n ≡ c + length (pick (placed_note p q at) (notes_of i l))
  pub notes : n ≤ most → notes_of n out ≡ notes_of c old ++ pick (placed_note p q at) (notes_of i l)
  pub long : length out ≡ length old
  pub high : n ≤ c + i
  pub inside : i ≤ length l / 3

pub taking_start : (l : List ℕ) (p q at most : ℕ) (old : List ℕ) (c : ℕ) → Taking l p q at most old c old 0 c
unfolding pick notes_of
taking_start l p q at most old c = record { count = sym (add-zero c); notes = λ _. sym (append-nil (notes_of c old)); long = refl; high = omega arith; inside = omega arith }

module _ {l : List ℕ} {p q at most : ℕ} {old : List ℕ} {c : ℕ} {out : List ℕ} {i n : ℕ} (v : Taking l p q at most old c out i n) where
  pub taking_next : {out' : List ℕ} {n' : ℕ} → i < length l / 3 → NoteTaken l i p q at most out n out' n' → Taking l p q at most old c out' (i + 1) n'
  taking_next h w =
      let P : List HeldNote = pick (placed_note p q at) (notes_of i l) in
      let M : List HeldNote = more (placed_note p q at (note_at l i)) [] in
      let e : pick (placed_note p q at) (notes_of (i + 1) l) ≡ P ++ M = rw (add-one i, notes_to l i) (pick_more (placed_note p q at) (notes_of i l) (note_at l i)) in
      record {
        count = rw (e, length-append P M) (omega (arith, w.count, v.count));
        notes = λ b. rw e (w.notes b ∙ (ap (λ (s : List HeldNote). s ++ M) (v.notes (omega (arith, w.low))) ∙ append_assoc (notes_of c old) P M));
        long = w.long ∙ v.long;
        high = omega (arith, w.high, v.high);
        inside = omega arith;
      }

  total : length l / 3 ≤ i → n ≡ c + length (pick (note_in p q) (notes_in l))
  total h =
      let e : i ≡ length l / 3 = omega (arith, v.inside) in
      v.count ∙ ap (λ (s : ℕ). c + s) (rw (e, placed_notes p q at (notes_in l)) (length-map (pick (note_in p q) (notes_in l)) (λ n. with_row n (at + n.row))))

  written : length l / 3 ≤ i → c + length (pick (note_in p q) (notes_in l)) ≤ most
      → notes_of (c + length (pick (note_in p q) (notes_in l))) out ≡ notes_of c old ++ map (λ n. with_row n (at + n.row)) (pick (note_in p q) (notes_in l))
  written h b =
      let e : i ≡ length l / 3 = omega (arith, v.inside) in
      rw (← total h, ← placed_notes p q at (notes_in l), ← e) (v.notes (omega (arith, total h)))

  pub taking_full : length l / 3 ≤ i → most < n → NotesTaken l p q at most old c out None
  unfolding taken
  taking_full h b = record { answer = rw (← total h, lt-ltb most n b); notes = written h }

  pub taking_done : length l / 3 ≤ i → n ≤ most → NotesTaken l p q at most old c out (Some n)
  unfolding taken
  taking_done h b = record { answer = rw (← total h, le-ltb most n b); notes = written h }

-- ── The rows of the parts that come in ──────────────────────────────────────────────────────────────────────

-- the words of parts put in by this rule
abbrev part_words : ℕ → ℕ → List ℕ → List ℕ
part_words rule at sizes = map (λ row. changed_word (put_in rule row)) (part_rows at sizes)

-- the first i parts are added, and the next part stands at `row`
pub record Adding (l : List ℕ) (k at rule : ℕ) (sizes out : List ℕ) (i row : ℕ) : Type 0 where
  pub inside : i ≤ length sizes
  pub long : length out ≡ length l
  pub added : out ≡ paste l k (part_words rule at sizes) i
  pub rest : drop i (part_rows at sizes) ≡ part_rows row (drop i sizes)
  pub small : row ≤ at + 2 ^ 16 * i

pub adding_start : (l : List ℕ) (k at rule : ℕ) (sizes : List ℕ) → Adding l k at rule sizes l 0 at
adding_start l k at rule sizes = record { inside = omega arith; long = refl; added = paste-zero l k (part_words rule at sizes); rest = refl; small = omega arith }

module _ {l : List ℕ} {k at rule : ℕ} {sizes out : List ℕ} {i row : ℕ} (v : Adding l k at rule sizes out i row) where
  -- the parts from here on
  parts_on : i < length sizes → drop i (part_rows at sizes) ≡ row ∷ part_rows (row + get_or sizes i 0) (drop (suc i) sizes)
  unfolding part_rows
  parts_on h = v.rest ∙ rw (drop-cons sizes i 0 h) refl

  part_row : i < length sizes → get_or (part_rows at sizes) i 0 ≡ row
  part_row h =
      let P : List ℕ = part_rows at sizes in
      ap (λ (j : ℕ). get_or P j 0) (sym (add-zero i)) ∙ (sym (get_or-drop i P 0 0) ∙ ap (λ (d : List ℕ). get_or d 0 0) (parts_on h))

  pub adding_small : i < length sizes → All (λ x. x < 131072) (part_rows at sizes) → row < 131072
  adding_small h a = rw (← part_row h) (All-at (λ x. x < 131072) 0 (part_rows at sizes) i (omega (arith, length_part_rows at sizes)) a)

  pub adding_next : {n y : ℕ} → i < length sizes → k + length sizes ≤ length l → All (λ x. x < 2 ^ 16) sizes → (n ≡ get_or sizes i 0) × (n < 2 ^ 32)
      → (y ≡ changed_word (put_in rule row)) × (y < 2 ^ 32) → Adding l k at rule sizes (set out (k + i) y) (i + 1) (row + n)
  adding_next {n} {y} h b a e z =
      let W : List ℕ = part_words rule at sizes in
      let P : List ℕ = part_rows at sizes in
      let s : n < 2 ^ 16 = rw e.0 (All-at (λ x. x < 2 ^ 16) 0 sizes i h a) in
      let m : length W ≡ length sizes = length-map P (λ row. changed_word (put_in rule row)) ∙ length_part_rows at sizes in
      let g : get_or W i 0 ≡ y = get_d_map (λ row. changed_word (put_in rule row)) P i 0 0 (omega (arith, length_part_rows at sizes)) ∙ (ap (λ (x : ℕ). changed_word (put_in rule x)) (part_row h) ∙ sym z.0) in
      record {
        inside = omega arith;
        long = length-set out (k + i) y ∙ v.long;
        added = ap (λ (d : List ℕ). set d (k + i) y) v.added ∙ (ap (λ (x : ℕ). set (paste l k W i) (k + i) x) (sym g) ∙ (paste-suc l k W i 0 (omega arith) (omega arith) ∙ ap (λ (j : ℕ). paste l k W j) (sym (add-one i))));
        rest = rw e.0 (sym (drop-drop 1 i P) ∙ (ap (λ (d : List ℕ). drop 1 d) (parts_on h) ∙ ap (λ (j : ℕ). part_rows (row + get_or sizes i 0) (drop j sizes)) (sym (add-one i))));
        small = omega (arith, v.small);
      }

  pub adding_done : length sizes ≤ i → k + length sizes ≤ length l → All (λ x. x < 131072) (part_rows at sizes) → RowsAdded l k at rule sizes out (k + length sizes)
  unfolding changed_in
  adding_done h b a =
      let e : length sizes ≡ i = omega (arith, v.inside) in
      let W : List ℕ = part_words rule at sizes in
      let m : length W ≡ length sizes = length-map (part_rows at sizes) (λ row. changed_word (put_in rule row)) ∙ length_part_rows at sizes in
      let t : take (k + i) out ≡ take k l ++ W = rw v.added (take-paste l k W i (omega arith) (omega (arith, v.inside)) ∙ ap (λ (s : List ℕ). take k l ++ s) (take_all i W (omega arith))) in
      record {
        rows = rw e (ap (map changed_of) t ∙ (map_append changed_of (take k l) W ∙ ap (λ (s : List HeldChanged). map changed_of (take k l) ++ s) (changed_put rule (part_rows at sizes) a)));
        count = refl;
      }
