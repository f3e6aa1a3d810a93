use Rattle.plan_mapping.proofs.Placing.{Placing}
use Rattle.plan_mapping.proofs.place_below.Given as goal

abbrev pub invariant-loop-at : goal.invariant-loop-at
invariant-loop-at l = Placing l.n l.table l.x l.e l.place l.at l.k

abbrev pub decreases-loop-at : goal.decreases-loop-at
decreases-loop-at l = l.at
