use Rattle.rows_syntax_node.proofs.Turns.{Grouping}
use Rattle.rows_syntax_node.proofs.trees_in.Given as goal

abbrev pub invariant-loop-i : goal.invariant-loop-i
invariant-loop-i l = Grouping l.run l.trees l.o l.i
