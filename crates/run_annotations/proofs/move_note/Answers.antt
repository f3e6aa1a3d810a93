-- `move_note` meets its contract.
use Rattle.run_annotations.proofs.Turns.{note_room, note_gone, note_kept}
use borrow.Author.Rules.{rules}
use Rattle.run_annotations.proofs.move_note.Goals as goal

pub returns-in_default : goal.returns-in_default
returns-in_default c = search (note_gone, rules)

pub keep_note-requires : goal.keep_note-requires
keep_note-requires c = search (note_room, rules)

pub returns : goal.returns
returns c = search (note_kept, rules)
