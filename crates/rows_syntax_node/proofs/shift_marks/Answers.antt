-- `shift_marks` meets its contract. The marks passed are moved.
use Rattle.rows_syntax_node.proofs.Turns.{shifting_next, shifting_done}
use borrow.Author.Rules.{rules}
use Rattle.rows_syntax_node.proofs.shift_marks.Goals as goal

pub loop-mark-preserved : goal.loop-mark-preserved
loop-mark-preserved c = search (shifting_next, rules)

pub returns : goal.returns
returns c = search (shifting_done, rules)
