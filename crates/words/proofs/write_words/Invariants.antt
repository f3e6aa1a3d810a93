use Rattle.words.proofs.Turns.{Writing}
use Rattle.words.proofs.write_words.Given as goal

abbrev pub invariant-loop-i : goal.invariant-loop-i
invariant-loop-i l = Writing l.initial.b l.at l.s l.b l.i
