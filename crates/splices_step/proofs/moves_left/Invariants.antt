use Rattle.splices_step.proofs.Turns.{Summing}
use Rattle.splices_step.proofs.moves_left.Given as goal

abbrev pub invariant-loop-j : goal.invariant-loop-j
invariant-loop-j l = Summing l.list.splices.words.now l.list.prepared.now l.i l.j l.gained l.lost
