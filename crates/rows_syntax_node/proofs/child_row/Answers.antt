-- `child_row` meets its contract.
use Rattle.rows_syntax_node.proofs.Turns.{child_found}
use borrow.Author.Rules.{rules}
use Rattle.rows_syntax_node.proofs.child_row.Goals as goal

pub returns : goal.returns
returns c = search (child_found, rules)
