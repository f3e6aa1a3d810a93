-- `forget_marks` meets its contract. The marks passed are moved, and those from one that stays on stay.
use Rattle.rows_syntax_node.proofs.Turns.{shifting_next, shifting_done, forget_done}
use borrow.Author.Rules.{rules}
use Rattle.rows_syntax_node.proofs.forget_marks.Goals as goal

pub returns-then-end-mark : goal.returns-then-end-mark
returns-then-end-mark c = search (forget_done, rules)

pub loop-mark-preserved : goal.loop-mark-preserved
loop-mark-preserved c = search (shifting_next, rules)

pub returns : goal.returns
returns c = search (shifting_done, rules)
