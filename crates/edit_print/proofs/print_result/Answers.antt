-- `print_result` meets its contract.
use borrow.Author.Rules.{rules}
use Rattle.edit_print.proofs.Turns.{arrays_whole, result_put, sized_room}
use Rattle.edit_print.proofs.print_result.Goals as goal

pub put_arrays-requires : goal.put_arrays-requires
put_arrays-requires c = search (arrays_whole, sized_room, rules)

pub returns : goal.returns
returns c = search (result_put, rules)
