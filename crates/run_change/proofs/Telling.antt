-- What the row of a change tells: each answer from the words read.
-- Assumes nothing.
use Rattle.std.specs.Prelude as prelude
use Rattle.std.specs.Prelude.{None, Some}
use mathlib.Core.Path.{◌≡◌}
use mathlib.Core.List.{List}
use Prim.Native.Nat.{ℕ, ◌+◌, ◌-◌, ◌*◌, ◌^◌, ◌≤◌, ◌<◌}
use native.Mathlib.Omega.{arith}
use lib.ListN.{length, get_or, drop}
use borrow.Author.Tests.{ne_eqb}
use Rattle.read_element_table.specs.Wellformed.{Lines}
use Rattle.read_element_table.specs.Told.{deep}
use Rattle.record_changes.specs.ChangeRow.{row_of}
use Rattle.record_changes.specs.ChangeRowLaws.{row_at}
use Rattle.run_tree_store.specs.Promises.{SiteAt}
use Rattle.run_tree_store.specs.declared.Gap.{Gap}
use Rattle.run_change.specs.Told.{AboveBy, records_by}

module _ (changes : List ℕ) (k : ℕ) {op x y : ℕ}
    (eo : (op ≡ get_or (drop (14 * k) changes) 0 0) × (op < 2 ^ 32))
    (ex : (x ≡ get_or (drop (14 * k) changes) 1 0) × (x < 2 ^ 32))
    (ey : (y ≡ get_or (drop (14 * k) changes) 2 0) × (y < 2 ^ 32)) where
  -- target and end are elements
  pub ends_low : (marks : List ℕ) → (k < 2 ^ 32) × ((row_at changes k).target < length marks) × ((row_at changes k).end < length marks) → (x < length marks) × (y < length marks)
  unfolding row_at row_of
  ends_low marks t = (rw ex.0 t.1, rw ey.0 t.2)

  pub site_told : {rows : List ℕ} {n : ℕ} {table marks : List ℕ} {r : prelude.Option Gap} → SiteAt rows n table marks op x y r → SiteAt rows n table marks (row_at changes k).operation (row_at changes k).target (row_at changes k).end r
  unfolding row_at row_of
  site_told v = rw (← eo.0, ← ex.0, ← ey.0) v

module _ {n : ℕ} {table : List ℕ} (changes : List ℕ) (k : ℕ) {x : ℕ} (l : Lines n table × (k < 2 ^ 32) × ((row_at changes k).target < n)) (ex : (x ≡ get_or (drop (14 * k) changes) 1 0) × (x < 2 ^ 32)) where
  pub target_low : x < n
  unfolding row_at row_of
  target_low = rw ex.0 l.2

  pub target_line : 8 * x + 8 ≤ length table
  target_line = omega (arith, target_low, l.0.long)

  module _ {d : ℕ} (ed : (d ≡ get_or table (8 * x + 3) 0) × (d < 2 ^ 32)) where
    pub some_depth : 0 < d
    some_depth = omega (arith, ed.0, deep n table l.0 x target_low)

    module _ {op : ℕ} (eo : (op ≡ get_or (drop (14 * k) changes) 0 0) × (op < 2 ^ 32)) where
      pub above_first : op ≡ 0 → AboveBy table (row_at changes k).operation (row_at changes k).target d
      unfolding row_at row_of
      above_first z = rw (← eo.0, ← ex.0) (record { depth = rw z ed.0; low = omega (arith, ed.0, l.0.shallow x target_low) })

      pub above_other : (op ≡ 0 → ⊥) → AboveBy table (row_at changes k).operation (row_at changes k).target (d - 1)
      unfolding row_at row_of
      above_other z = rw (← eo.0, ← ex.0) (record { depth = rw (ne_eqb op 0 z, ed.0); low = omega (arith, ed.0, l.0.shallow x target_low) })

module _ (changes : List ℕ) (k : ℕ) {f : ℕ} (ef : (f ≡ get_or (drop (14 * k) changes) 11 0) × (f < 2 ^ 32)) where
  pub not_recorded : (f ≡ 0 → ⊥) → None ≡ records_by (row_at changes k)
  unfolding records_by row_at row_of
  not_recorded z = rw (← ef.0, ne_eqb f 0 z)

  module _ {t : ℕ} (et : (t ≡ get_or (drop (14 * k) changes) 5 0) × (t < 2 ^ 32)) (z : f ≡ 0) where
    pub not_in_tree_0 : (t ≡ 0 → ⊥) → None ≡ records_by (row_at changes k)
    unfolding records_by row_at row_of
    not_in_tree_0 y = rw (← ef.0, z, ← et.0, ne_eqb t 0 y)

    pub recorded_by : {n : ℕ} → (n ≡ get_or (drop (14 * k) changes) 13 0) × (n < 2 ^ 32) → t ≡ 0 → Some n ≡ records_by (row_at changes k)
    unfolding records_by row_at row_of
    recorded_by {n} en y = rw (← ef.0, z, ← et.0, y, ← en.0)
