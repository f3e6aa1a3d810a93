use Rattle.plan_upmap.proofs.Notes.{Rising}
use Rattle.plan_upmap.proofs.nearest_mapped.Given as goal

abbrev pub invariant-loop-at : goal.invariant-loop-at
invariant-loop-at l = Rising l.mapping.elements.count l.mapping.elements.table.now l.mapping.map.now l.e l.at

abbrev pub decreases-loop-at : goal.decreases-loop-at
decreases-loop-at l = l.at
