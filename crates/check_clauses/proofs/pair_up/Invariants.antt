use Rattle.std.proofs.Common.{length}
use Rattle.check_clauses.proofs.Turns.{Pairing}
use Rattle.check_clauses.proofs.pair_up.Given as goal

abbrev pub invariant-loop-x : goal.invariant-loop-x
invariant-loop-x l = Pairing l.pairs.olds.now l.pairs.news.now l.initial.partners l.partners (length l.yielded)
