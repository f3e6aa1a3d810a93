use Rattle.finish_arrays.proofs.Turns.{Sweeping}
use Rattle.finish_arrays.proofs.write_elements.Given as goal

abbrev pub invariant-loop-row : goal.invariant-loop-row
invariant-loop-row l = Sweeping l.tree l.initial.b l.at l.measures l.b l.reads l.row
