use Rattle.rows_syntax_node.proofs.Turns.{Numbering}
use Rattle.rows_syntax_node.proofs.number_from.Given as goal

abbrev pub invariant-loop-i : goal.invariant-loop-i
invariant-loop-i l = Numbering l.initial.marks l.first l.marks l.i
