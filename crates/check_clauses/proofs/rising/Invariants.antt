use Rattle.check_clauses.proofs.Turns.{Rising}
use Rattle.check_clauses.proofs.rising.Given as goal

abbrev pub invariant-loop-w : goal.invariant-loop-w
invariant-loop-w l = Rising l.partners l.last l.w-index
