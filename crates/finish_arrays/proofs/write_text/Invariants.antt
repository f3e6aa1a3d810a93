use Rattle.finish_arrays.proofs.Turns.{Pending}
use Rattle.finish_arrays.proofs.write_text.Given as goal

abbrev pub invariant-loop-i : goal.invariant-loop-i
invariant-loop-i l = Pending l.tree l.text l.initial.b l.at l.b l.stretch l.i
