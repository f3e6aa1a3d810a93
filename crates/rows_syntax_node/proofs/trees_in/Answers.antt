-- `trees_in` meets its contract. The trees begun are counted.
use Rattle.rows_syntax_node.proofs.Turns.{grouping_first, grouping_next, grouping_done}
use borrow.Author.Rules.{rules}
use Rattle.rows_syntax_node.proofs.trees_in.Goals as goal
use Rattle.rows_syntax_node.proofs.trees_in.Goals.{then-o-eq0, else-o-eq0}

pub loop-i-preserved : goal.loop-i-preserved
loop-i-preserved c = elim c.if-o-eq0.branch [ then-o-eq0 w ↦ search (grouping_first, rules) | else-o-eq0 w ↦ search (grouping_next, rules) ]

pub returns : goal.returns
returns c = search (grouping_done, rules)
