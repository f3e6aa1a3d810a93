use Rattle.std.proofs.Common.{length}
use Rattle.plan_edge.proofs.Stating.{Stating}
use Rattle.plan_edge.proofs.state_fates.Given as goal

abbrev pub invariant-loop-k : goal.invariant-loop-k
invariant-loop-k l = Stating l.table l.initial.rows l.regions (length l.regions) l.rows l.k
