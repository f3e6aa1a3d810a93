use Rattle.plan_upmap.proofs.Descending.{Descending}
use Rattle.plan_upmap.proofs.descend.Given as goal

abbrev pub invariant-loop-number : goal.invariant-loop-number
invariant-loop-number l = Descending l.elements.count l.elements.table.now l.elements.source.now l.r l.numbers l.at l.number-iterator.iter.rest.now
