-- How many rows and text bytes a splice makes, decided before it from totals, and that where a change goes lies within the rows.
-- Assumes nothing.
use Rattle.std.specs.Prelude.{◌≡◌, refl, ℕ, zero, suc, ◌+◌, ◌-◌, ◌≤◌, min, length, ltb}
use Rattle.std.proofs.Math.Path.{sym, ap}
use Rattle.std.proofs.Common.{◌∙◌, inl, inr, drop-drop, lt-ltb}
use mathlib.Core.List.{List, [], ◌∷◌, ◌++◌}
use Rattle.std.proofs.Math.Option.{Option}
use native.Mathlib.Omega.{arith}
use Rattle.std.proofs.Math.ListN.{take, drop, length-append, length-drop, take-append-drop}
use Rattle.std.proofs.Math.Seq.{length-take-le}
use Rattle.orders.specs.ListLaws.{lt_or_le, length_modify}
use Rattle.orders.specs.Tree.{Tree, modify, HasRun}
use Rattle.definition.specs.Running.{Run}
use Rattle.rows_model.specs.Row.{Row, tok, nod, outside, text_length, bytes, height}
use Rattle.rows_model.specs.Place.{size, between, remeasure, splice_rows}
use Rattle.rows_model.proofs.RowLaws.{bytes_append}
use Rattle.rows_model.proofs.PlaceLaws.{run_order, run_after, run_within}
use Rattle.run_model.specs.Store.{Store, Gap, Part, new_rows, spliced_store, store_too_large}
use Rattle.run_model.proofs.Gaps.{gap_at}
use Rattle.run_model.proofs.Sizes.{any_same}
use Rattle.run_model.specs.Sums.{Within, too_large_by}

-- a parent's measure is no text
measured_text : (lost gained : ℕ) (r : Row) → text_length (remeasure lost gained r) ≡ text_length r
measured_text lost gained (tok k x) = refl
measured_text lost gained (nod k m) = refl
measured_text lost gained (outside k m) = refl

bytes_modify : (lost gained parent : ℕ) (rs : List Row) → bytes (modify parent (remeasure lost gained) rs) ≡ bytes rs
unfolding modify
bytes_modify lost gained parent [] = refl
bytes_modify lost gained zero (r ∷ rs) = ap (λ n. n + bytes rs) (measured_text lost gained r)
bytes_modify lost gained (suc parent) (r ∷ rs) = ap (λ n. text_length r + n) (bytes_modify lost gained parent rs)

module _ (rs : List Row) (parent p q lost : ℕ) (new : List Row) (gained : ℕ) (h : p ≤ q) (k : q ≤ length rs) where
  -- The rows that a splice makes.
  pub splice_length : length (splice_rows rs parent p q lost new gained) ≡ length rs - (q - p) + length new
  unfolding splice_rows
  splice_length =
      length_modify (remeasure lost gained) (take p rs ++ (new ++ drop q rs)) parent
      ∙ (length-append (take p rs) (new ++ drop q rs)
      ∙ omega (arith, length-take-le p rs (omega arith), length-append new (drop q rs), length-drop q rs))

  -- rows cut in three
  cut : take p rs ++ (between p q rs ++ drop q rs) ≡ rs
  unfolding between
  cut =
      let n : p + (q - p) ≡ q = omega arith in
      let e : drop q rs ≡ drop (q - p) (drop p rs) = sym (drop-drop (q - p) p rs ∙ ap (λ (n : ℕ). drop n rs) n) in
      ap (λ (l : List Row). take p rs ++ (take (q - p) (drop p rs) ++ l)) e ∙ (ap (λ (l : List Row). take p rs ++ l) (take-append-drop (q - p) (drop p rs)) ∙ take-append-drop p rs)

  -- The text bytes that it makes, with those that it takes away.
  pub splice_bytes : bytes (splice_rows rs parent p q lost new gained) + bytes (between p q rs) ≡ bytes rs + bytes new
  unfolding splice_rows
  splice_bytes = omega (
    arith,
    bytes_modify lost gained parent (take p rs ++ (new ++ drop q rs)),
    bytes_append (take p rs) (new ++ drop q rs),
    bytes_append new (drop q rs),
    sym (ap bytes cut),
    bytes_append (take p rs) (between p q rs ++ drop q rs),
    bytes_append (between p q rs) (drop q rs),
  )

-- Where a run of the current trees stands lies within their rows.
pub gap_within : (t : Tree ℕ) (r : Run) → HasRun t r.parent r.from r.to → Within (size t) (gap_at t r)
unfolding gap_at
gap_within t r h = record { below = run_after r.parent t r.from r.to h; order = run_order r.parent t r.from r.to h; high = run_within r.parent t r.from r.to h }

-- ── 12 before the step ──────────────────────────────────────────────────────────────────────────────────────

-- a height that is told as 65 where it is more than 64
deep_enough : (above n : ℕ) → ltb 64 (above + n) ≡ ltb 64 (above + min 65 n)
deep_enough above n = elim (lt_or_le n 65) [
  | inl w ↦ let e : min 65 n ≡ n = omega arith in rw e
  | inr w ↦ let e : min 65 n ≡ 65 = omega arith in lt-ltb 64 (above + n) (omega arith) ∙ sym (rw e (lt-ltb 64 (above + 65) (omega arith)))
]

-- Whether a step makes too much is decided before it, from totals.
pub too_large_sums : (above : ℕ) (g : Gap) (new : List Part) (recorded : Option ℕ) (s : Store) → g.from ≤ g.to → g.to ≤ length s.rows
    → store_too_large above new (spliced_store g new recorded s)
    ≡ too_large_by (length s.rows - (g.to - g.from) + length (new_rows new)) (bytes s.rows + bytes (new_rows new) - bytes (between g.from g.to s.rows)) (length (spliced_store g new recorded s).notes) (above + min 65 (height (new_rows new)))
unfolding store_too_large too_large_by spliced_store
too_large_sums above g new recorded s h k =
    let next : List Row = splice_rows s.rows g.parent g.from g.to g.lost (new_rows new) (length new) in
    let b : bytes next ≡ bytes s.rows + bytes (new_rows new) - bytes (between g.from g.to s.rows) = omega (arith, splice_bytes s.rows g.parent g.from g.to g.lost (new_rows new) (length new) h k) in
    any_same
    (ap (ltb 4097) (splice_length s.rows g.parent g.from g.to g.lost (new_rows new) (length new) h k))
    (ap (ltb 16384) b)
    refl
    (deep_enough above (height (new_rows new)))
