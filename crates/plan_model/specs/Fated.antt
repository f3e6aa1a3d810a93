-- The sorted rows, those that stay, and their fates: the definition's planned changes, and what rewriting asks of them.
-- Assumes nothing.
use Rattle.std.specs.Prelude.{◌≡◌}
use mathlib.Core.List.{List, zip_with}
use Rattle.std.proofs.Math.Option.{Option}
use Prim.Native.Nat.{ℕ, ◌≤◌, ◌<◌}
use Rattle.orders.specs.Lists.{All}
use Rattle.definition.specs.Basics.{rising}
use Rattle.definition.specs.Choices.{Choices}
use Rattle.definition.specs.Elements.{Table}
use Rattle.definition.specs.Refusals.{Call}
use Rattle.definition.specs.Recording.{Recorded, recorded}
use Rattle.definition.specs.Planning.{key, sorted, changes_of}
use Rattle.definition.specs.EdgeRule.{fates_by}
use Rattle.definition.specs.Withdrawing.{withdrawals_by, staying}
use Rattle.record_changes.specs.ChangeRow.{ChangeRow, rows_of}
use Rattle.record_changes.specs.ChangeRowLaws.{row_at}
use Rattle.record_queue.specs.Recorded.{recorded_at}
use Rattle.record_queue.specs.RecordedRows.{change_rows}
use Rattle.plan_sort.specs.Rows.{row_key, with_fate}
use Rattle.plan_rewrite.specs.Kept.{Kept}

module _ (T : Table) (cs : List Call) where
  -- what is recorded in sorted order, each with the place where its elements start
  unfoldable pub sorted_at : List (ℕ × Recorded)
  sorted_at = rising (λ p. key T p.1.change) (recorded_at cs)

  -- THE ROWS in sorted order
  unfoldable pub sorted_rows : List ChangeRow
  sorted_rows = rising row_key (change_rows T cs)

  -- under which change each is withdrawn, by the choices; and the changes that stay
  abbrev pub gone : Choices → List (Option ℕ)
  gone h = withdrawals_by h T (sorted T (recorded cs))

  abbrev pub left : Choices → List Recorded
  left h = staying (gone h) (sorted T (recorded cs))

  -- these with the places where their elements start
  unfoldable pub left_at : Choices → List (ℕ × Recorded)
  left_at h = staying (gone h) sorted_at

  -- THE ROWS of those that stay
  unfoldable pub left_rows : Choices → List ChangeRow
  left_rows h = staying (gone h) sorted_rows

  -- and with their fates
  unfoldable pub fated_rows : Choices → List ChangeRow
  fated_rows h = zip_with with_fate (left_rows h) (fates_by h T (changes_of (left h)))

-- c rows with their fates, as the second stage goes by them
pub record RowsFated (n : ℕ) (T : Table) (listed : List ℕ) (c : ℕ) (w : List ℕ) : Type 0 where
  pub few : c ≤ 256
  -- each is exact and states a change of elements
  pub kept : All (Kept n T listed) (rows_of c w)
  -- a dependent's owner is a call 2 among them
  pub owned : (i : ℕ) → i < c → (row_at w i).fate ≡ 1 → ((row_at w i).owner < c) × ((row_at w (row_at w i).owner).operation ≡ 2)
