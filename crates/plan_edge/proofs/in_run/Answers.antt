-- `in_run` meets its contract. Two words say which child of whom.
use Rattle.plan_edge.proofs.Tests.{other_parent, before_run, to_run_end}
use borrow.Author.Rules.{rules}
use Rattle.plan_edge.proofs.in_run.Goals as goal

pub returns-then-entry : goal.returns-then-entry
returns-then-entry c = search (other_parent, rules)

pub returns-then-i-entry : goal.returns-then-i-entry
returns-then-i-entry c = search (before_run, rules)

pub returns : goal.returns
returns c = search (to_run_end, rules)
