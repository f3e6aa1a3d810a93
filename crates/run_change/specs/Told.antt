-- What the row of a change tells: by its words, and by the table's.
-- Assumes nothing.
use Rattle.std.specs.Prelude as prelude
use Rattle.std.specs.Prelude.{◌≡◌, None, Some, cond, ◌&&◌, List, ℕ, ◌+◌, ◌-◌, ◌*◌, ◌≤◌, get_or, eqb}
use Rattle.record_changes.specs.ChangeRow.{ChangeRow}

-- the depth of the node below which a change of this operation and target goes, by the table's word
pub record AboveBy (lines : List ℕ) (op x r : ℕ) : Type 0 where
  pub depth : r ≡ cond (eqb op 0) (get_or lines (8 * x + 3) 0) (get_or lines (8 * x + 3) 0 - 1)
  pub low : r ≤ 64

-- the rule number by which a row's change records, if it does
unfoldable pub records_by : ChangeRow → prelude.Option ℕ
records_by r = cond (eqb r.fate 0 && eqb r.tree 0) (Some r.rule) None
