-- `pass_trees` meets its contract. What is left from row i on is told by the elements that are still owed.
use borrow.Author.Rules.{rules}
use Rattle.rows_path.proofs.Turns.{passing_start, passing_next, passing_out, passing_done}
use Rattle.rows_path.proofs.pass_trees.Goals as goal

pub loop-i-init : goal.loop-i-init
loop-i-init c = search (passing_start, rules)

pub returns-then-o-eq0 : goal.returns-then-o-eq0
returns-then-o-eq0 c = search (passing_done, rules)

pub loop-i-preserved : goal.loop-i-preserved
loop-i-preserved c = search (passing_next, rules)

pub returns : goal.returns
returns c = search (passing_out, rules)
