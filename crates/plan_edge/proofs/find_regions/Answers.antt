-- `find_regions` meets its contract. The invariant: the regions of the changes before place k are found.
use Rattle.plan_edge.proofs.Regions.{finding_start, finding_next, finding_done}
use borrow.Author.Rules.{rules}
use Rattle.plan_edge.proofs.find_regions.Goals as goal

pub loop-k-init : goal.loop-k-init
loop-k-init c = search (finding_start, rules)

pub loop-k-preserved : goal.loop-k-preserved
loop-k-preserved c = search (finding_next, rules)

pub returns : goal.returns
returns c = search (finding_done, rules)
