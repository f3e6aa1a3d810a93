use Rattle.rows_syntax_node.proofs.Turns.{Owing}
use Rattle.rows_syntax_node.proofs.rows_after.Given as goal

abbrev pub invariant-loop-i : goal.invariant-loop-i
invariant-loop-i l = Owing l.rows.words.now l.rows.count l.at l.owed l.i l.o
