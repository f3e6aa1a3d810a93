use Prim.Native.Nat.{◌-◌}
use Rattle.rows_syntax_node.proofs.Turns.{Shifting}
use Rattle.rows_syntax_node.proofs.forget_marks.Given as goal

abbrev pub invariant-loop-mark : goal.invariant-loop-mark
invariant-loop-mark l = Shifting l.initial.marks l.p l.q (l.q - l.p) l.marks l.mark-index
