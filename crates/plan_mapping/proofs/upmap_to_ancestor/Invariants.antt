use Rattle.plan_mapping.proofs.Climbing.{Climbing}
use Prim.Native.Nat.{◌+◌, ◌-◌}
use Rattle.plan_mapping.proofs.upmap_to_ancestor.Given as goal

abbrev pub invariant-loop-parent : goal.invariant-loop-parent
invariant-loop-parent l = Climbing l.n l.table l.map l.input l.output l.trail l.x l.k

abbrev pub decreases-loop-parent : goal.decreases-loop-parent
decreases-loop-parent l = l.n + 1 - l.k
