-- `mark_all` meets its contract.
use Rattle.check_clauses.proofs.Turns.{marking_next, marking_end}
use borrow.Author.Rules.{rules}
use Rattle.check_clauses.proofs.mark_all.Goals as goal

pub loop-y-preserved : goal.loop-y-preserved
loop-y-preserved c = search (marking_next, rules)

pub returns : goal.returns
returns c = search (marking_end, rules)
