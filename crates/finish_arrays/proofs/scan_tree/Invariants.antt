use Rattle.finish_arrays.proofs.Turns.{Scanning}
use Rattle.finish_arrays.proofs.scan_tree.Given as goal

abbrev pub invariant-loop-i : goal.invariant-loop-i
invariant-loop-i l = Scanning l.run l.text l.initial.start-items l.start-items l.owed l.sum l.size l.i
