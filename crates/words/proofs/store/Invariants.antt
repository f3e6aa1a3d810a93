use lib.ListN.{length}
use Rattle.words.proofs.Turns.{Copying}
use Rattle.words.proofs.store.Given as goal

abbrev pub invariant-loop-i : goal.invariant-loop-i
invariant-loop-i l = Copying l.initial.s l.at l.row (length l.row) l.s l.i
