use Rattle.plan_edge.proofs.Regions.{Finding}
use Rattle.plan_edge.proofs.find_regions.Given as goal

abbrev pub invariant-loop-k : goal.invariant-loop-k
invariant-loop-k l = Finding l.table l.rows l.initial.regions l.n l.regions l.k
