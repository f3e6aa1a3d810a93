use Rattle.plan_changed_region.proofs.Regions.{Planning}
use Rattle.plan_changed_region.proofs.plan_fates.Given as goal

abbrev pub invariant-loop-k : goal.invariant-loop-k
invariant-loop-k l = Planning l.initial.rows l.n l.rows l.tops l.k
