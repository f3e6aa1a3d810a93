use Rattle.plan_sort.specs.Lists.{one_past}
use Rattle.plan_changed_region.proofs.Regions.{Popping}
use Rattle.plan_changed_region.proofs.enclosing_region.Given as goal

abbrev pub invariant-loop-region : goal.invariant-loop-region
invariant-loop-region l = Popping l.from l.to l.rows (one_past l.initial.region) (one_past l.region)

abbrev pub decreases-loop-region : goal.decreases-loop-region
decreases-loop-region l = one_past l.region
