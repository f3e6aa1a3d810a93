-- `gather_numbers` meets its contract. The invariant: the first i numbers stand.
use borrow.Author.Rules.{rules}
use Rattle.series_check.proofs.Numbers.{gathering_start, gathering_next, gathering_done}
use Rattle.series_check.proofs.gather_numbers.Goals as goal

pub loop-i-init : goal.loop-i-init
loop-i-init c = search (gathering_start, rules)

pub loop-i-preserved : goal.loop-i-preserved
loop-i-preserved c = search (gathering_next, rules)

pub returns : goal.returns
returns c = search (gathering_done, rules)
