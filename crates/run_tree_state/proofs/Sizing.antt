-- How large a step makes what is held: each answer, and what it tells of the step.
-- Assumes nothing.
use Rattle.std.specs.Prelude as prelude
use Rattle.std.specs.Prelude.{None, Some, Ok, Err}
use mathlib.Core.Path.{◌≡◌, refl, sym, ap, ◌∙◌}
use mathlib.Core.Bool.{Bool, true, false, cond, ◌||◌}
use mathlib.Core.List.{List, [], ◌++◌, map, flat_map}
use Prim.Native.Nat.{ℕ, ◌+◌, ◌-◌, ◌*◌, ◌/◌, ◌≤◌, ◌<◌, min}
use native.Mathlib.Omega.{arith}
use lib.ListN.{length, take, drop, length-append}
use lib.Dec.{ltb}
use borrow.Author.Tests.{lt-ltb, ltb-true, ltb-false}
use Rattle.orders.specs.Lists.{pick, meant}
use Rattle.orders.specs.ListLaws.{either_false}
use Rattle.definition.specs.Basics.{gives, ◌>>=◌, refuse}
use Rattle.refusals.specs.Numbers.{number}
use Rattle.refusals.specs.declared.Refusal.TheVariants.{Large}
use Rattle.rows_model.specs.Row.{Row, triples, first_rows, bytes, height}
use Rattle.rows_model.specs.Place.{between}
use Rattle.rows_model.proofs.Words.{length_first, length_triples, words_between}
use Rattle.run_model.specs.Store.{HeldNote, with_row, Part, new_rows, placed_parts, spliced_store, store_too_large}
use Rattle.run_model.specs.Sums.{too_large_by}
use Rattle.run_model.proofs.Sums.{splice_bytes, too_large_sums}
use Rattle.rows_syntax_node.specs.Promises.{Bytes, height_by, Height}
use Rattle.run_annotations.specs.Notes.{notes_of, length_notes_of, notes_part}
use Rattle.run_annotations.specs.Promises.{moved_note}
use Rattle.run_tree_store.specs.Stored.{stored}
use Rattle.run_tree_store.specs.declared.Gap.{Gap}
use Rattle.run_tree_state.specs.Coming.{Coming}
use Rattle.run_splice.specs.Promises.{NotesAfter}
use Rattle.run_tree_state.specs.Store.{held_in, gap_told, Comes, Open, RoomFor, StoreSpliced}
use Rattle.run_tree_state.specs.Sizes.{BytesBetween, size_by, rows_then, bytes_then, notes_then, large_then, StepSize}
use Rattle.run_tree_state.specs.Applied.{executed_in, judged_store, Applied}
use Rattle.run_tree_state.specs.declared.TreeState.{TreeState}

-- ── Sums ────────────────────────────────────────────────────────────────────────────────────────────────────

-- some of the rows have no more text than all
between_less : (rows : List ℕ) (n p q : ℕ) (text : List ℕ) → 3 * n ≤ length rows → p ≤ q → q ≤ n → bytes (between p q (first_rows text n rows)) ≤ bytes (first_rows text n rows)
between_less rows n p q text l h k =
    let z = length_first text n rows l in
    omega (arith, splice_bytes (first_rows text n rows) 0 p q 0 [] 0 h (omega arith))

pub bytes_between : (rows : List ℕ) (n p q r : ℕ) {run : List ℕ} → (3 * n ≤ length rows) × (n < 65536) × (p ≤ q) × (q ≤ n) → Bytes run r → run ≡ take (3 * q - 3 * p) (drop (3 * p) rows) → BytesBetween rows n p q r
bytes_between rows n p q r h b c =
    let e : (text : List ℕ) → r ≡ bytes (between p q (first_rows text n rows)) = λ text. (rw c at b).sum text ∙ ap bytes (words_between text n rows p q h.2 h.3) in
    record { sum = e; small = omega (arith, e [], between_less rows n p q [] h.0 h.2 h.3) }

pub bytes_enough : {rows : List ℕ} {n p q r b : ℕ} → BytesBetween rows n p q r → ((text : List ℕ) → b ≡ bytes (first_rows text n rows)) → r ≤ b
bytes_enough v e = omega (arith, v.small, e [])

-- what a height tells
pub height_some : {run : List ℕ} {o : prelude.Option ℕ} {d : ℕ} → Height run o → o ≡ Some d → (text : List ℕ) → (height (triples text run) ≡ d) × (d ≤ 64)
unfolding height_by
height_some {run} {o} {d} v e text = go (ltb 64 (height (triples text run))) refl (sym e ∙ v.most text)
  where
    go : (b : Bool) → ltb 64 (height (triples text run)) ≡ b → Some d ≡ cond b None (Some (height (triples text run))) → (height (triples text run) ≡ d) × (d ≤ 64)
    go true y h = let z : ◌≡◌ {A = ℕ} 0 1 = cc in absurd (omega arith)
    go false y h = let z : d ≡ height (triples text run) = cc in (sym z, omega (arith, ltb-false 64 (height (triples text run)) y))

height_none : {run : List ℕ} {o : prelude.Option ℕ} → Height run o → o ≡ None → (text : List ℕ) → 64 < height (triples text run)
unfolding height_by
height_none {run} {o} v e text = go (ltb 64 (height (triples text run))) refl (sym e ∙ v.most text)
  where
    go : (b : Bool) → ltb 64 (height (triples text run)) ≡ b → None ≡ cond b None (Some (height (triples text run))) → 64 < height (triples text run)
    go true y h = ltb-true 64 (height (triples text run)) y
    go false y h = let z : ◌≡◌ {A = ℕ} 0 1 = cc in absurd (omega arith)

-- ── The answer ──────────────────────────────────────────────────────────────────────────────────────────────

by_alike : {n n' b b' d d' : ℕ} (k k' : ℕ) → n ≡ n' → b ≡ b' → ltb 1024 k ≡ ltb 1024 k' → d ≡ d' → too_large_by n b k d ≡ too_large_by n' b' k' d'
unfolding too_large_by
by_alike k k' e f g h = rw (e, f, g, h)

by_same : {n n' b b' k k' d d' : ℕ} → n ≡ n' → b ≡ b' → k ≡ k' → d ≡ d' → too_large_by n b k d ≡ too_large_by n' b' k' d'
by_same e f g h = by_alike _ _ e f (ap (λ (n : ℕ). ltb 1024 n) g) h

too_deep : (n b k d : ℕ) → 64 < d → too_large_by n b k d ≡ true
unfolding too_large_by
too_deep n b k d h = go (ltb 4097 n) (ltb 16384 b) (ltb 1024 k)
  where
    go : (x y z : Bool) → (x || y || z || ltb 64 d) ≡ true
    go true y z = refl
    go false true z = refl
    go false false true = refl
    go false false false = lt-ltb 64 d h

-- too deep, whatever else
pub size_deep : (rows notes : List ℕ) (s : TreeState) (g : Gap) (run incoming : List ℕ) (above : ℕ) {o r : prelude.Option ℕ} → Height run o → o ≡ None → r ≡ None → StepSize rows notes s g run incoming above r
unfolding size_by large_then
size_deep rows notes s g run incoming above v e f = record { answer = λ text. rw (f, too_deep (rows_then rows notes s g run incoming above) (bytes_then rows notes s g run incoming above text) (notes_then rows notes s g run incoming above) (above + min 65 (height (triples text run))) (omega (arith, height_none v e text))) }

module _ (rows notes : List ℕ) (s : TreeState) (g : Gap) (run incoming : List ℕ) (above : ℕ) {lost noted come deep : ℕ} {o : prelude.Option ℕ}
    (a : BytesBetween rows s.rows g.from g.to lost)
    (k : 3 * s.notes ≤ length notes)
    (b : NotesAfter (take (3 * s.notes) notes) g.from g.to (length incoming / 3) 1024 noted)
    (d : Bytes run come)
    (e : Height run o)
    (h : o ≡ Some deep)
    (f : (s.bytes ≤ 16384) × ((text : List ℕ) → s.bytes ≡ bytes (first_rows text s.rows rows)))
    {t : Bool}
    (j : t ≡ too_large_by (s.rows - (g.to - g.from) + length run / 3) (s.bytes + come - lost) noted (above + deep)) where
  bytes_then_lem : (text : List ℕ) → s.bytes + come - lost ≡ bytes_then rows notes s g run incoming above text
  unfolding bytes_then
  bytes_then_lem text = omega (arith, f.1 text, d.sum text, a.sum text)

  large_then_lem : (text : List ℕ) → t ≡ large_then rows notes s g run incoming above text
  unfolding large_then rows_then notes_then
  large_then_lem text =
      let z = height_some e h text in
      let y : deep ≡ min 65 (height (triples text run)) = omega arith in
      let n : ltb 1024 noted ≡ ltb 1024 (length (pick (moved_note g.from g.to (length run / 3)) (notes_of s.notes notes)) + length incoming / 3) = b.same (length run / 3) ∙ ap (λ (l : List HeldNote). ltb 1024 (length (pick (moved_note g.from g.to (length run / 3)) l) + length incoming / 3)) (notes_part s.notes notes k) in
      j ∙ by_alike _ _ refl (bytes_then_lem text) n (ap (λ (i : ℕ). above + i) y)

  pub size_large : t ≡ true → StepSize rows notes s g run incoming above None
  unfolding size_by
  size_large z = record { answer = λ text. rw (← large_then_lem text, z) }

  pub size_fits : t ≡ false → StepSize rows notes s g run incoming above (Some (s.bytes + come - lost))
  unfolding size_by
  size_fits z = record { answer = λ text. rw (← large_then_lem text, z, bytes_then_lem text) }

-- ── What the answer tells ───────────────────────────────────────────────────────────────────────────────────

size_told : (large : Bool) (n m : ℕ) → Some n ≡ size_by large m → (large ≡ false) × (n ≡ m)
unfolding size_by
size_told true n m e = let z : ◌≡◌ {A = ℕ} 0 1 = cc in absurd (omega arith)
size_told false n m e = (refl, cc)

large_told : (large : Bool) (m : ℕ) → None ≡ size_by large m → large ≡ true
unfolding size_by
large_told true m e = refl
large_told false m e = let z : ◌≡◌ {A = ℕ} 0 1 = cc in absurd (omega arith)

small_by : (n b k d : ℕ) → too_large_by n b k d ≡ false → (n ≤ 4097) × (b ≤ 16384) × (k ≤ 1024) × (d ≤ 64)
unfolding too_large_by
small_by n b k d h =
    let (h, w) = either_false _ _ h in
    let (h, z) = either_false _ _ h in
    let (x, y) = either_false _ _ h in
    (ltb-false 4097 n x, ltb-false 16384 b y, ltb-false 1024 k z, ltb-false 64 d w)

-- ── One step ────────────────────────────────────────────────────────────────────────────────────────────────

module _ {s : TreeState} {rows marks notes changed : List ℕ} {g : Gap} {recorded : prelude.Option ℕ} {run sizes incoming : List ℕ} (m : Open s rows marks notes changed g recorded (length sizes)) (w : Coming run sizes incoming) where
  -- what is told before the step is told of what it makes
  large_same : (above : ℕ) (text : List ℕ) (new : List Part) → Comes text new g.from run sizes incoming
      → store_too_large above new (spliced_store (gap_told g) new (meant recorded) (held_in text s rows marks notes changed)) ≡ large_then rows notes s g run incoming above text
  unfolding large_then rows_then bytes_then notes_then spliced_store gap_told stored
  large_same above text new i =
      let z = length_first text s.rows rows m.long in
      let k : length run / 3 ≡ length (new_rows new) = sym (length_triples text run) ∙ ap length i.told in
      let kept : List HeldNote = pick (moved_note g.from g.to (length (new_rows new))) (notes_of s.notes notes) in
      let come : List HeldNote = flat_map (λ y. map (λ n. with_row n (y.0 + n.row)) y.1.notes) (placed_parts g.from new) in
      let n : length (kept ++ come) ≡ length kept + length incoming / 3 = length-append kept come ∙ ap (λ (x : ℕ). length kept + x) (ap length (sym i.noted) ∙ length_notes_of (length incoming / 3) incoming) in
      too_large_sums above (gap_told g) new (meant recorded) (held_in text s rows marks notes changed) m.order (omega (arith, m.high))
      ∙ by_same
      (ap (λ (x : ℕ). x - (g.to - g.from) + length (new_rows new)) z ∙ ap (λ (x : ℕ). s.rows - (g.to - g.from) + x) (sym k))
      (ap (λ (l : List Row). bytes (first_rows text s.rows rows) + bytes l - bytes (between g.from g.to (first_rows text s.rows rows))) (sym i.told))
      (n ∙ ap (λ (x : ℕ). length (pick (moved_note g.from g.to x) (notes_of s.notes notes)) + length incoming / 3) (sym k))
      (ap (λ (l : List Row). above + min 65 (height l)) (sym i.told))

  module _ {above : ℕ} {r : prelude.Option ℕ} (v : StepSize rows notes s g run incoming above r) where
    -- it fits
    small_then : {b : ℕ} → r ≡ Some b → (rows_then rows notes s g run incoming above ≤ 4097) × (notes_then rows notes s g run incoming above ≤ 1024)
    unfolding large_then
    small_then {b} e =
        let (z, _) = size_told (large_then rows notes s g run incoming above []) b _ (sym e ∙ v.answer []) in
        let (x, _, y, _) = small_by _ _ _ _ z in
        (x, y)

    -- so there is room for all
    pub apply_asks : {b : ℕ} → r ≡ Some b → (12291 ≤ length rows) × (3072 ≤ length notes) → RoomFor s rows notes g run incoming
    unfolding rows_then notes_then
    apply_asks {b} e h =
        let (x, y) = small_then e in
        record { long = omega (arith, w.whole, h.0); long_notes = omega (arith, h.1) }

    pub apply_refused : r ≡ None → Applied s rows marks notes changed g above recorded run sizes incoming rows marks notes changed (Err Large)
    unfolding executed_in judged_store refuse ◌>>=◌ number
    apply_refused e = record {
      answer = λ text new i. rw (large_same above text new i, large_told (large_then rows notes s g run incoming above text) _ (sym e ∙ v.answer text));
      measured = λ t q. let z : ◌≡◌ {A = ℕ} 0 1 = cc in absurd (omega arith);
      place = λ t q. let z : ◌≡◌ {A = ℕ} 0 1 = cc in absurd (omega arith);
      most = λ t q. let z : ◌≡◌ {A = ℕ} 0 1 = cc in absurd (omega arith);
      few = λ t q. let z : ◌≡◌ {A = ℕ} 0 1 = cc in absurd (omega arith);
      risen = λ t q. let z : ◌≡◌ {A = ℕ} 0 1 = cc in absurd (omega arith);
    }

    pub apply_done : {b : ℕ} {rows' marks' notes' changed' : List ℕ} {t : TreeState} → r ≡ Some b
        → StoreSpliced s rows marks notes changed g recorded run sizes incoming b rows' marks' notes' changed' t
        → Applied s rows marks notes changed g above recorded run sizes incoming rows' marks' notes' changed' (Ok t)
    unfolding executed_in judged_store refuse ◌>>=◌ bytes_then rows_then
    apply_done {b} {rows'} {marks'} {notes'} {changed'} {t} e u = record {
      answer = λ text new i. rw (large_same above text new i, (size_told (large_then rows notes s g run incoming above text) b _ (sym e ∙ v.answer text)).0) (ap gives (u.store text new i));
      measured = λ t' q text.
          let z : t ≡ t' = cc in
          let n = length_first text s.rows rows m.long in
          let x = (size_told (large_then rows notes s g run incoming above text) b _ (sym e ∙ v.answer text)).1 in
          rw (← z) (omega (arith, u.measured, ap bytes (u.told text), splice_bytes (first_rows text s.rows rows) g.parent g.from g.to g.lost (triples text run) (length sizes) m.order (omega (arith, m.high))));
      place = λ t' q. let z : t ≡ t' = cc in rw (← z) u.place;
      most = λ t' q. let z : t ≡ t' = cc in rw (← z) u.most;
      few = λ t' q. let z : t ≡ t' = cc in rw (← z) (omega (arith, u.count, (small_then e).0));
      risen = λ t' q. u.risen;
    }
