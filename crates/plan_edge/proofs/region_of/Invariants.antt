use Rattle.plan_sort.specs.Lists.{one_past}
use Rattle.plan_edge.proofs.Regions.{Seeking}
use Rattle.plan_edge.proofs.region_of.Given as goal

abbrev pub invariant-loop-j : goal.invariant-loop-j
invariant-loop-j l = Seeking l.table l.rows l.k l.n l.p l.j (one_past l.region)
