-- `rows_after` meets its contract. What is left from row i on is told by the elements that are still owed.
use borrow.Author.Rules.{rules}
use Rattle.rows_syntax_node.proofs.Turns.{owing_start, owing_next, owing_out, owing_done}
use Rattle.rows_syntax_node.proofs.rows_after.Goals as goal

pub loop-i-init : goal.loop-i-init
loop-i-init c = search (owing_start, rules)

pub returns-then-o-eq0 : goal.returns-then-o-eq0
returns-then-o-eq0 c = search (owing_done, rules)

pub loop-i-preserved : goal.loop-i-preserved
loop-i-preserved c = search (owing_next, rules)

pub returns : goal.returns
returns c = search (owing_out, rules)
