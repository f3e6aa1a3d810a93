use Rattle.plan_upmap.proofs.Notes.{Settling}
use Rattle.plan_upmap.proofs.upmap_element.Given as goal

abbrev pub invariant-loop-a : goal.invariant-loop-a
invariant-loop-a l = Settling l.mapping.elements.count l.mapping.elements.table.now l.mapping.elements.source.now l.mapping.map.now l.e l.at l.left

abbrev pub decreases-loop-a : goal.decreases-loop-a
decreases-loop-a l = l.left
