-- What a splice of all that is held asks for and makes, from its parts.
-- Assumes nothing.
use Rattle.std.specs.Prelude as prelude
use Rattle.std.specs.Prelude.{None, Some}
use mathlib.Core.Path.{◌≡◌, refl, sym, ap, ◌∙◌}
use mathlib.Core.List.{List, [], ◌∷◌, map}
use mathlib.Core.Option.{none, some}
use Prim.Native.Nat.{ℕ, ◌+◌, ◌-◌, ◌*◌, ◌%◌, ◌/◌, ◌^◌, ◌≤◌, ◌<◌}
use native.Mathlib.Omega.{arith}
use lib.ListN.{length, get_or, length-map}
use Rattle.orders.specs.Lists.{All, meant}
use Rattle.rows_model.proofs.Words.{length_triples}
use Rattle.run_model.specs.Store.{HeldChanged, put_in, Part, new_rows, placed_parts, spliced_store}
use Rattle.run_model.proofs.Spliced.{store_same}
use Rattle.run_annotations.specs.Places.{part_rows, part_rows_lem}
use Rattle.run_annotations.specs.Changed.{put_by}
use Rattle.run_tree_store.specs.Stored.{stored}
use Rattle.run_tree_store.specs.declared.Gap.{Gap}
use Rattle.run_tree_state.specs.Coming.{Coming}
use Rattle.run_splice.specs.Promises.{SplicedMarks, NotesSpliced, ChangedSpliced}
use Rattle.run_tree_state.specs.Store.{gap_told, Open, RoomFor, StoreSpliced}
use Rattle.run_tree_state.specs.declared.TreeState.{TreeState}

-- parts that stand in bounds from the row a on do so from the row b on
places_small : (d a b : ℕ) (sizes : List ℕ) → b ≡ d + a → d < 2 ^ 16 → All (λ x. x < 2 ^ 16) (part_rows a sizes) → All (λ x. x < 131072) (part_rows b sizes)
unfolding part_rows
places_small d a b [] e k h = tt
places_small d a b (n ∷ sizes) e k h = (let z = h.0 in omega arith, places_small d (a + n) (b + n) sizes (omega arith) k h.1)

module _ {s : TreeState} {rows marks notes changed : List ℕ} {g : Gap} {recorded : prelude.Option ℕ} {run sizes incoming : List ℕ} (v : Open s rows marks notes changed g recorded (length sizes)) (w : Coming run sizes incoming) where
  pub shift_low : g.to < 2 ^ 16
  shift_low = omega (arith, v.high, v.few)

  pub asks_sizes : (length sizes < 2 ^ 12) × All (λ x. x < 2 ^ 16) sizes × All (λ x. x < 131072) (part_rows g.from sizes)
  asks_sizes = (omega (arith, w.few_parts), w.sized, places_small g.from 0 g.from sizes (omega arith) (omega (arith, v.order, shift_low)) w.placed)

  pub asks_rows : RoomFor s rows notes g run incoming
      → ((3 * s.rows ≤ length rows) × (s.rows < 2 ^ 16) × (g.parent < g.from) × (g.from ≤ g.to) × (g.to ≤ s.rows) × All (λ m. m < s.rows) marks)
      × ((length run % 3 ≡ 0) × (length run < 3 * 2 ^ 16) × (3 * (s.rows - (g.to - g.from)) + length run ≤ length rows))
      × ((2147483648 ≤ get_or rows (3 * g.parent) 0) × (g.lost ≤ get_or rows (3 * g.parent + 1) 0) × (get_or rows (3 * g.parent + 1) 0 + length sizes < 2 ^ 32))
  asks_rows h = ((v.long, omega (arith, v.few), v.below, v.order, v.high, v.marked), (w.whole, omega (arith, w.short), h.long), (v.node, v.lost, v.gained))

-- what is recorded, by the parts
put_parts : (recorded : prelude.Option ℕ) (at : ℕ) (new : List Part) → put_by recorded (part_rows at (map (λ y. length y.rows) new)) ≡ elim (meant recorded) as (λ _. List HeldChanged) [ none ↦ [] | some rule ↦ map (λ y. put_in rule y.0) (placed_parts at new) ]
put_parts None at new = refl
put_parts (Some rule) at new = ap (map (put_in rule)) (sym (part_rows_lem at new)) ∙ map-map (placed_parts at new)
  where
    map-map : (l : List (ℕ × Part)) → map (put_in rule) (map (λ y. y.0) l) ≡ map (λ y. put_in rule y.0) l
    map-map [] = refl
    map-map (y ∷ l) = ap {B = List HeldChanged} (λ r. put_in rule y.0 ∷ r) (map-map l)

pub store_spliced : (s : TreeState) (rows marks notes changed : List ℕ) (g : Gap) (recorded : prelude.Option ℕ) (run sizes incoming : List ℕ) (bytes : ℕ) (rows' marks' notes' changed' : List ℕ) (r k l : ℕ)
    → SplicedMarks rows s.rows marks g.parent g.from g.to g.lost run (length sizes) rows' marks' r → NotesSpliced notes s.notes g.from g.to (length run / 3) incoming notes' k
    → ChangedSpliced changed s.changed g.from g.to (length run / 3) recorded sizes changed' l
    → StoreSpliced s rows marks notes changed g recorded run sizes incoming bytes rows' marks' notes' changed' (record { root = s.root; rows = r; bytes = bytes; notes = k; changed = l })
unfolding spliced_store stored gap_told
store_spliced s rows marks notes changed g recorded run sizes incoming bytes rows' marks' notes' changed' r k l a b d = record {
  store = λ text new i.
      let m : length run / 3 ≡ length (new_rows new) = sym (length_triples text run) ∙ ap length i.told in
      let e : length sizes ≡ length new = ap length i.each ∙ length-map new (λ y. length y.rows) in
      store_same
      (a.told text ∙ rw (i.told, e))
      (a.moved ∙ rw m)
      (b.notes ∙ rw (m, i.noted))
      (d.rows ∙ rw (m, i.each, put_parts recorded g.from new));
  told = a.told;
  measured = refl;
  place = refl;
  most = d.most;
  count = a.count;
  risen = a.risen;
}

-- the root's place told anew is the same state
pub store_replaced : {s : TreeState} {rows marks notes changed : List ℕ} {g : Gap} {recorded : prelude.Option ℕ} {run sizes incoming : List ℕ} {bytes : ℕ} {rows' marks' notes' changed' : List ℕ} {t : TreeState} → g.from ≡ s.root
    → StoreSpliced s rows marks notes changed g recorded run sizes incoming bytes rows' marks' notes' changed' t
    → StoreSpliced s rows marks notes changed g recorded run sizes incoming bytes rows' marks' notes' changed' (record { root = g.from; rows = t.rows; bytes = t.bytes; notes = t.notes; changed = t.changed })
store_replaced e u = record { store = u.store; told = u.told; measured = u.measured; place = e; most = u.most; count = u.count; risen = u.risen }
