use lib.ListN.{drop}
use Rattle.words.proofs.Turns.{Copying}
use Rattle.words.proofs.move_down.Given as goal

abbrev pub invariant-loop-i : goal.invariant-loop-i
invariant-loop-i l = Copying l.initial.s l.to (drop l.from l.initial.s) l.len l.s l.i
