use Rattle.rows_path.proofs.Turns.{Passing}
use Rattle.rows_path.proofs.pass_trees.Given as goal

abbrev pub invariant-loop-i : goal.invariant-loop-i
invariant-loop-i l = Passing l.rows.words.now l.rows.count l.at l.owed l.o l.text l.i
