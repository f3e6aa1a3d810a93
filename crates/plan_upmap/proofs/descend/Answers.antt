-- `descend` meets its contract. At the loop's head the way down from where it stands is left.
use native.Mathlib.Omega.{arith}
use Rattle.plan_upmap.proofs.Descending.{descending_start, descending_none, descending_next, descending_done}
use Rattle.plan_upmap.proofs.descend.Goals as goal

pub loop-number-init : goal.loop-number-init
loop-number-init c = descending_start _ _ _ _ _ _ c.requires (grind arith)

pub returns-in_err-at : goal.returns-in_err-at
returns-in_err-at c = rw c.from_residual.ensures (descending_none _ _ _ _ _ _ _ c.loop-number.invariant _ _ c.in-Some.ensures.steps _ c.nth_child.ensures c.in_err-at.was)

pub loop-number-preserved : goal.loop-number-preserved
loop-number-preserved c = descending_next _ _ _ _ _ _ _ c.loop-number.invariant _ _ c.in-Some.ensures.steps _ c.nth_child.ensures _ c.in_ok-at.was

pub returns : goal.returns
returns c = descending_done _ _ _ _ _ _ _ c.loop-number.invariant c.in-None.ensures.steps.0
