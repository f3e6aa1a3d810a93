-- `move_down` meets its contract. The words passed are moved.
use borrow.Author.Rules.{rules}
use Rattle.words.proofs.Turns.{copying_start, lowering_next, copying_done}
use Rattle.words.proofs.move_down.Goals as goal

pub loop-i-init : goal.loop-i-init
loop-i-init c = search (copying_start, rules)

pub loop-i-preserved : goal.loop-i-preserved
loop-i-preserved c = search (lowering_next, rules)

pub returns : goal.returns
returns c = search (copying_done, rules)
