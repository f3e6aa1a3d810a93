-- `move_notes` meets its contract. The notes passed are moved.
use Rattle.run_annotations.proofs.Turns.{notes_start, notes_small, notes_next, notes_done}
use borrow.Author.Rules.{rules}
use Rattle.run_annotations.proofs.move_notes.Goals as goal

pub loop-i-init : goal.loop-i-init
loop-i-init c = search (notes_start, rules)

pub move_note-r-requires : goal.move_note-r-requires
move_note-r-requires c = search (notes_small, rules)

pub loop-i-preserved : goal.loop-i-preserved
loop-i-preserved c = search (notes_next, rules)

pub returns : goal.returns
returns c = search (notes_done, rules)
