-- `judge_changes` meets its contract.
use native.Mathlib.Omega.{arith}
use Rattle.plan_edit.proofs.Judging.{changes_judged}
use Rattle.plan_edit.proofs.judge_changes.Goals as goal

pub judge_rest-requires : goal.judge_rest-requires
judge_rest-requires c = (omega (arith, c.leave_weaker-c.ensures.few, c.record_and_sort-n.ensures.few), omega (arith, c.leave_weaker-c.ensures.few, c.record_and_sort-n.ensures.few), c.leave_weaker-c.ensures.long)

pub returns : goal.returns
returns c = changes_judged _ c.requires.ready c.record_and_sort-n.ensures c.leave_weaker-c.ensures c.judge_rest.ensures
