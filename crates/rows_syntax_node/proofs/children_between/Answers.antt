-- `children_between` meets its contract.
use Rattle.rows_syntax_node.proofs.Turns.{trees_between}
use borrow.Author.Rules.{rules}
use Rattle.rows_syntax_node.proofs.children_between.Goals as goal

pub returns : goal.returns
returns c = search (trees_between, rules)
