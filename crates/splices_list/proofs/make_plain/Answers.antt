-- `make_plain` meets its contract.
use borrow.Author.Rules.{rules}
use Rattle.splices_list.proofs.Turns.{plaining_start, plaining_next, plaining_done}
use Rattle.splices_list.proofs.make_plain.Goals as goal

pub loop-i-init : goal.loop-i-init
loop-i-init c = search (plaining_start, rules)

pub loop-i-preserved : goal.loop-i-preserved
loop-i-preserved c = search (plaining_next, rules)

pub returns : goal.returns
returns c = search (plaining_done, rules)
