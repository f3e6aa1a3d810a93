-- `put_found` meets its contract.
use borrow.Author.Rules.{rules}
use Rattle.edit_print.proofs.Turns.{changed_put, note_put, found_put, found_room}
use Rattle.edit_print.proofs.put_found.Goals as goal

pub put_pairs-requires : goal.put_pairs-requires
put_pairs-requires c = found_room c.args.changed.now.bytes.now c.args.changed.now.at c.args.changed.now.count c.args.notes.now.count c.requires (search rules) (changed_put _ c.put_pairs-to.ensures)

pub returns : goal.returns
returns c = found_put c.args.changed.now.bytes.now c.args.changed.now.at c.args.changed.now.count c.args.notes.now.count c.requires (changed_put _ c.put_pairs-to.ensures) (note_put _ c.put_pairs.ensures)
