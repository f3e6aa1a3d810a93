use Rattle.plan_upmap.proofs.Descending.{Siblings}
use Rattle.plan_upmap.proofs.nth_child.Given as goal

abbrev pub invariant-loop : goal.invariant-loop
invariant-loop l = Siblings l.elements.count l.elements.table.now l.elements.source.now l.e l.i l.c l.counter
