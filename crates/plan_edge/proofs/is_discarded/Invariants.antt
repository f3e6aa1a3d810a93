use Rattle.plan_edge.proofs.Stating.{Following}
use Rattle.plan_edge.proofs.is_discarded.Given as goal

abbrev pub invariant-loop : goal.invariant-loop
invariant-loop l = Following l.rows l.regions l.most l.k l.at l.counter
