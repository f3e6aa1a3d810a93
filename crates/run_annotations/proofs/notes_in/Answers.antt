-- `notes_in` meets its contract. The notes passed are taken or counted.
use Rattle.run_annotations.proofs.Turns.{taking_start, taking_next, taking_full, taking_done}
use borrow.Author.Rules.{rules}
use Rattle.run_annotations.proofs.notes_in.Goals as goal

pub loop-i-init : goal.loop-i-init
loop-i-init c = search (taking_start, rules)

pub loop-i-preserved : goal.loop-i-preserved
loop-i-preserved c = search (taking_next, rules)

pub returns-then-most-c : goal.returns-then-most-c
returns-then-most-c c = search (taking_full, rules)

pub returns : goal.returns
returns c = search (taking_done, rules)
