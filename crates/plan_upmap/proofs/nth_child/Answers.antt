-- `nth_child` meets its contract. At the loop's head the siblings from where it stands are left.
use borrow.Author.Rules.{rules}
use Rattle.plan_upmap.proofs.Descending.{no_child_beyond, siblings_start, siblings_next, siblings_done}
use Rattle.plan_upmap.proofs.nth_child.Goals as goal

pub returns-then-child_count-i : goal.returns-then-child_count-i
returns-then-child_count-i c = search (no_child_beyond, rules)

pub loop-init : goal.loop-init
loop-init c = search (siblings_start, rules)

pub loop-preserved : goal.loop-preserved
loop-preserved c = search (siblings_next, rules)

pub returns : goal.returns
returns c = search (siblings_done, rules)
