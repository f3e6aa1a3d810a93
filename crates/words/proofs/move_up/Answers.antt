-- `move_up` meets its contract. The words passed, which are the last, are moved.
use borrow.Author.Rules.{rules}
use Rattle.words.proofs.Turns.{raising_start, raising_next, raising_done}
use Rattle.words.proofs.move_up.Goals as goal

pub loop-i-init : goal.loop-i-init
loop-i-init c = search (raising_start, rules)

pub loop-i-preserved : goal.loop-i-preserved
loop-i-preserved c = search (raising_next, rules)

pub returns : goal.returns
returns c = search (raising_done, rules)
