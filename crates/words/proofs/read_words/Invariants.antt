use lib.ListN.{drop}
use Rattle.definition.specs.Words.{words}
use Rattle.words.proofs.Turns.{Copying}
use Rattle.words.proofs.read_words.Given as goal

abbrev pub invariant-loop-i : goal.invariant-loop-i
invariant-loop-i l = Copying l.initial.s l.to (words l.n (drop l.at l.b)) l.n l.s l.i
