-- `plan_fates` meets its contract. The invariant: the rows before place k have their fates, and the stacks give the others'.
use Rattle.plan_changed_region.proofs.Regions.{planning_start, planning_next, planning_done}
use borrow.Author.Rules.{rules}
use Rattle.plan_changed_region.proofs.plan_fates.Goals as goal

pub loop-k-init : goal.loop-k-init
loop-k-init c = search (planning_start, rules)

pub loop-k-preserved : goal.loop-k-preserved
loop-k-preserved c = search (planning_next, rules)

pub returns : goal.returns
returns c = search (planning_done, rules)
