use Rattle.plan_postorder.proofs.Linking.{Linking}
use Rattle.plan_postorder.proofs.link_dependents.Given as goal

abbrev pub invariant-loop-place : goal.invariant-loop-place
invariant-loop-place l = Linking l.rows l.ranked l.place-iterator.iter.rest.now l.first l.next
