-- `state_fates` meets its contract. The invariant: the rows before place k have their fates.
use Rattle.plan_edge.proofs.Stating.{stating_start, stating_next, stating_done}
use borrow.Author.Rules.{rules}
use Rattle.plan_edge.proofs.state_fates.Goals as goal

pub loop-k-init : goal.loop-k-init
loop-k-init c = search (stating_start, rules)

pub loop-k-preserved : goal.loop-k-preserved
loop-k-preserved c = search (stating_next, rules)

pub returns : goal.returns
returns c = search (stating_done, rules)
