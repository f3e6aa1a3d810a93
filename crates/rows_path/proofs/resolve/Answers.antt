-- `resolve` meets its contract. The steps passed lead to the row at hand.
use borrow.Author.Rules.{rules}
use Rattle.rows_path.proofs.Turns.{following_out, following_none, following_next, following_done}
use Rattle.rows_path.proofs.resolve.Goals as goal

pub returns-then-n-at : goal.returns-then-n-at
returns-then-n-at c = search (following_out, rules)

pub returns-then-child_count-i : goal.returns-then-child_count-i
returns-then-child_count-i c = search (following_none, rules)

pub loop-step-preserved : goal.loop-step-preserved
loop-step-preserved c = search (following_next, rules)

pub returns-then-n-at-2 : goal.returns-then-n-at-2
returns-then-n-at-2 c = search (following_out, rules)

pub returns : goal.returns
returns c = search (following_done, rules)
