-- `height` meets its contract. The words of the array tell what the open nodes owe.
use Rattle.rows_syntax_node.proofs.Turns.{stacking_pop, stacking_deep, stacking_push, stacking_done}
use borrow.Author.Rules.{rules}
use Rattle.rows_syntax_node.proofs.height.Goals as goal

pub loop-i-preserved-then-x-eq0 : goal.loop-i-preserved-then-x-eq0
loop-i-preserved-then-x-eq0 c = search (stacking_pop, rules)

pub returns-then-depth-ge64 : goal.returns-then-depth-ge64
returns-then-depth-ge64 c = search (stacking_deep, rules)

pub loop-i-preserved : goal.loop-i-preserved
loop-i-preserved c = search (stacking_push, rules)

pub returns : goal.returns
returns c = search (stacking_done, rules)
