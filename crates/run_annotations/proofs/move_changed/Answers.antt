-- `move_changed` meets its contract. The rows passed are moved.
use Rattle.run_annotations.proofs.Turns.{moving_start, moving_small, moving_next, moving_done}
use borrow.Author.Rules.{rules}
use Rattle.run_annotations.proofs.move_changed.Goals as goal

pub loop-i-init : goal.loop-i-init
loop-i-init c = search (moving_start, rules)

pub move_row-r-requires : goal.move_row-r-requires
move_row-r-requires c = search (moving_small, rules)

pub loop-i-preserved : goal.loop-i-preserved
loop-i-preserved c = search (moving_next, rules)

pub returns : goal.returns
returns c = search (moving_done, rules)
