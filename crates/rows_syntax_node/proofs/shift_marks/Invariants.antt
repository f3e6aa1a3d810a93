use Rattle.rows_syntax_node.proofs.Turns.{Shifting}
use Rattle.rows_syntax_node.proofs.shift_marks.Given as goal

abbrev pub invariant-loop-mark : goal.invariant-loop-mark
invariant-loop-mark l = Shifting l.initial.marks l.p l.q l.m l.marks l.mark-index
