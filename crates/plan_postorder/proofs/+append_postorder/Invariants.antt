-- The invariant: what has been written, and what the changes that are still linked give, is what was to be written. The
-- measure of a call, and of its loop, is how many changes are not yet visited.
use Prim.Native.Nat.{◌-◌}
use Rattle.plan_postorder.proofs.Visits.{Appending}
use Rattle.plan_postorder.proofs.+append_postorder.Given as goal

abbrev pub decreases-append_postorder : goal.decreases-append_postorder
decreases-append_postorder l = l.left

abbrev pub invariant-loop-k : goal.invariant-loop-k
invariant-loop-k l = Appending l.first l.next l.owner l.initial.running l.at l.running l.end l.link

abbrev pub decreases-loop-k : goal.decreases-loop-k
decreases-loop-k l = l.left - (l.end - l.at)
