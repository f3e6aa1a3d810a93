use Rattle.splices_check.proofs.Turns.{Owing}
use Rattle.splices_check.proofs.closes.Given as goal

abbrev pub invariant-loop-i : goal.invariant-loop-i
invariant-loop-i l = Owing l.run l.o l.i
