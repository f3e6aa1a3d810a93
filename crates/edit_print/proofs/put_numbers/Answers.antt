-- `put_numbers` meets its contract.
use borrow.Author.Rules.{rules}
use Rattle.edit_print.proofs.Turns.{numbers_next, putting_done, putting_room, putting_start}
use Rattle.edit_print.proofs.put_numbers.Goals as goal

pub loop-n-init : goal.loop-n-init
loop-n-init c = search (putting_start, rules)

pub put_number-to-requires : goal.put_number-to-requires
put_number-to-requires c = search (putting_room, rules)

pub loop-n-preserved : goal.loop-n-preserved
loop-n-preserved c = search (numbers_next, rules)

pub returns : goal.returns
returns c = search (putting_done, rules)
