use Prim.Native.Nat.{◌+◌, ◌-◌}
use lib.ListN.{length}
use Rattle.rows_syntax_node.proofs.Turns.{Stacking}
use Rattle.rows_syntax_node.proofs.height.Given as goal

abbrev pub invariant-loop-i : goal.invariant-loop-i
invariant-loop-i l = Stacking l.run l.left l.depth l.most l.i

abbrev pub decreases-loop-i : goal.decreases-loop-i
decreases-loop-i l = (length l.run - l.i) + (length l.run - l.i) + l.depth
