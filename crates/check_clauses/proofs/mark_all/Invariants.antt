use Rattle.check_clauses.proofs.Turns.{Marking}
use Rattle.check_clauses.proofs.mark_all.Given as goal

abbrev pub invariant-loop-y : goal.invariant-loop-y
invariant-loop-y l = Marking l.changed l.initial.marks l.marks l.y-index
