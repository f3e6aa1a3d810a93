-- `region_of` meets its contract. The invariant: b is the region among the places from j on.
use Rattle.plan_edge.proofs.Regions.{root_nowhere, seeking_start, seeking_next, seeking_done}
use borrow.Author.Rules.{rules}
use Rattle.plan_edge.proofs.region_of.Goals as goal

pub returns-then-of_root : goal.returns-then-of_root
returns-then-of_root c = (search (root_nowhere, rules), search rules)

pub loop-j-init : goal.loop-j-init
loop-j-init c = search (seeking_start, rules)

pub loop-j-preserved : goal.loop-j-preserved
loop-j-preserved c = search (seeking_next, rules)

pub returns : goal.returns
returns c = (search (seeking_done, rules), search rules)
