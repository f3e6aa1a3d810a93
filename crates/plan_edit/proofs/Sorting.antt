-- Recording and sorting: what the callees ask, and that the sorted rows are the recorded calls'.
-- Assumes nothing.
use mathlib.Core.List.{List, ◌++◌}
use mathlib.Core.Path.{◌≡◌, sym, ap, ◌∙◌}
use Prim.Native.Nat.{ℕ, ◌*◌, ◌≤◌}
use native.Mathlib.Omega.{arith}
use lib.ListN.{length, drop}
use Rattle.definition.specs.Basics.{rising}
use Rattle.definition_laws.specs.Sorting.{rising_length}
use Rattle.record_changes.specs.ChangeRow.{ChangeRow, rows_of}
use Rattle.record_changes.specs.ChangeRowLaws.{rows_words, rows_read}
use Rattle.record_queue.specs.RecordedRows.{change_rows, RowsRecorded}
use Rattle.record_queue.specs.CallList.{Fit}
use Rattle.plan_sort.specs.Rows.{row_key}
use Rattle.read_layout.specs.declared.Layout.{Layout}
use Rattle.plan_model.specs.Fated.{sorted_rows}
use Rattle.plan_model.specs.Ready.{call_words, listed_in, calls_in, table_in, Ready, ready_facts}
use Rattle.plan_edit.specs.Stages.{Sorted}

module _ {b : List ℕ} {l : Layout} {t s : List ℕ} (r : Ready b l t s) where
  pub calls_fit : Fit l.sizes.elements (call_words l b) (listed_in l b)
  calls_fit = (ready_facts r).fit

  pub calls_few : l.sizes.calls ≤ 256
  calls_few = r.within.limits.calls

  pub rows_sorted : (w w' v v' : List ℕ) (c : ℕ) → RowsRecorded l.sizes.calls (change_rows (table_in l t s) (calls_in l b)) w c w' → v' ≡ rows_words (rising row_key (rows_of c w')) ++ drop (14 * c) v → Sorted b l t s c v'
  unfolding sorted_rows
  rows_sorted w w' v v' c R e =
      let rs : List ChangeRow = change_rows (table_in l t s) (calls_in l b) in
      let read : rows_of c w' ≡ rs = ap (rows_of c) R.written ∙ rows_read rs (drop (14 * length rs) w) c (sym R.counted) in
      record {
        few = omega (arith, R.few, calls_few);
        rows = ap (rows_of c) (e ∙ ap (λ (q : List ChangeRow). rows_words (rising row_key q) ++ drop (14 * c) v) read) ∙ rows_read (rising row_key rs) (drop (14 * c) v) c (rising_length row_key rs ∙ sym R.counted);
      }
