-- `innermost_of` meets its contract. Only what is further in comes before those there.
use Rattle.plan_edge.proofs.Regions.{untaken, last_taken, further_in, no_further}
use borrow.Author.Rules.{rules}
use Rattle.plan_edge.proofs.innermost_of.Goals as goal

pub returns-then-not-takes_change : goal.returns-then-not-takes_change
returns-then-not-takes_change c = (search (untaken, rules), search rules)

pub returns-in_default : goal.returns-in_default
returns-in_default c = (search (last_taken, rules), search rules)

pub returns-then-there-here : goal.returns-then-there-here
returns-then-there-here c = (search (further_in, rules), search rules)

pub returns : goal.returns
returns c = (search (no_further, rules), search rules)
