use Rattle.words.proofs.Turns.{Raising}
use Rattle.words.proofs.move_up.Given as goal

abbrev pub invariant-loop-i : goal.invariant-loop-i
invariant-loop-i l = Raising l.initial.s l.from l.to l.len l.s l.i
