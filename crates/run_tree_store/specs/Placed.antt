-- There is at most one proof that marks are rows, and of a table's lines, so that both can be fields.
-- Assumes nothing.
use Rattle.std.proofs.Props.{props}
use Rattle.std.specs.Prelude.{List, ℕ, ◌<◌}
use Rattle.orders.specs.Lists.{All}
use Rattle.orders.specs.ListLaws.{all_prop}
use Rattle.read_element_table.specs.Wellformed.{Lines}

pub placed_prop : (n : ℕ) (marks : List ℕ) → IsProp (All (λ m. m < n) marks)
placed_prop n marks = hlevel (all_prop, props)

pub lines_prop : (n : ℕ) (table : List ℕ) → IsProp (Lines n table)
lines_prop n table = hlevel (all_prop, props)
