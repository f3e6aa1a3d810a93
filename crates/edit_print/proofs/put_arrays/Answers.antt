-- `put_arrays` meets its contract.
use borrow.Author.Rules.{rules}
use Rattle.edit_print.proofs.Turns.{arrays_put, text_fits, treed_room}
use Rattle.edit_print.proofs.put_arrays.Goals as goal

pub put_tree-treed-requires : goal.put_tree-treed-requires
put_tree-treed-requires c = search (text_fits, rules)

pub put_found-requires : goal.put_found-requires
put_found-requires c = search (treed_room, rules)

pub returns : goal.returns
returns c = search (arrays_put, rules)
