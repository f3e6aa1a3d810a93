use Rattle.series_check.proofs.Numbers.{Gathering}
use Rattle.series_check.proofs.gather_numbers.Given as goal

abbrev pub invariant-loop-i : goal.invariant-loop-i
invariant-loop-i l = Gathering l.bookmarks.words.now l.bookmarks.count l.numbers l.i
