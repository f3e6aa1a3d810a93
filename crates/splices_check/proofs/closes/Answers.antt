-- `closes` meets its contract.
use borrow.Author.Rules.{rules}
use Rattle.splices_check.proofs.Turns.{owing_start, owing_next, owing_done}
use Rattle.splices_check.proofs.closes.Goals as goal

pub loop-i-init : goal.loop-i-init
loop-i-init c = search (owing_start, rules)

pub loop-i-preserved : goal.loop-i-preserved
loop-i-preserved c = search (owing_next, rules)

pub returns : goal.returns
returns c = search (owing_done, rules)
