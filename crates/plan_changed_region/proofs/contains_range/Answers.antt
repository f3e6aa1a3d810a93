-- `contains_range` meets its contract. Both ends are compared.
use Rattle.plan_changed_region.proofs.Regions.{starts_later, starts_before}
use borrow.Author.Rules.{rules}
use Rattle.plan_changed_region.proofs.contains_range.Goals as goal

pub returns-then-from-field : goal.returns-then-from-field
returns-then-from-field c = search (starts_later, rules)

pub returns : goal.returns
returns c = search (starts_before, rules)
