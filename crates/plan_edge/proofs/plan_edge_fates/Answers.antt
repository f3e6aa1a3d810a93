-- `plan_edge_fates` meets its contract. The regions stand in a longer slice, and none behind them.
use Rattle.plan_edge.proofs.Stating.{all_stated}
use borrow.Author.Rules.{rules}
use Rattle.plan_edge.proofs.plan_edge_fates.Goals as goal

pub returns : goal.returns
returns c = search (all_stated, rules)
