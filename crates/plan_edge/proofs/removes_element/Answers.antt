-- `removes_element` meets its contract. What is at or below siblings is an interval.
use Rattle.plan_edge.proofs.Tests.{before_target, before_after}
use borrow.Author.Rules.{rules}
use Rattle.plan_edge.proofs.removes_element.Goals as goal

pub returns-then-e-field : goal.returns-then-e-field
returns-then-e-field c = search (before_target, rules)

pub returns : goal.returns
returns c = search (before_after, rules)
