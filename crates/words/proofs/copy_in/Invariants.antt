use lib.ListN.{length}
use Rattle.words.proofs.Turns.{Copying}
use Rattle.words.proofs.copy_in.Given as goal

abbrev pub invariant-loop-i : goal.invariant-loop-i
invariant-loop-i g l = Copying l.initial.s l.at l.src (length l.src) l.s l.i
