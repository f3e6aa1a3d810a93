-- `put_line` meets its contract.
use borrow.Author.Rules.{rules}
use Rattle.edit_print.proofs.Turns.{line_put, line_room}
use Rattle.edit_print.proofs.put_line.Goals as goal

pub put-requires : goal.put-requires
put-requires c = search (line_room, rules)

pub returns : goal.returns
returns c = search (line_put, rules)
