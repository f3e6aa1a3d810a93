-- `hand_out` meets its contract: 13, or the pairs.
use borrow.Author.Rules.{rules}
use Rattle.kept_rows.proofs.Ways.{pairs_13, pairs_given}
use Rattle.kept_rows.proofs.hand_out.Goals as goal

pub returns-then-res-count : goal.returns-then-res-count
returns-then-res-count c = search (pairs_13, rules)

pub returns : goal.returns
returns c = search (pairs_given, rules)
