-- `land` meets its contract. One law for each answer.
use native.Mathlib.Omega.{arith}
use Rattle.plan_upmap.proofs.Descending.{landing_none, landing_on_node, landing_refused, landing_of_token}
use Rattle.plan_upmap.specs.Answers.{within_at}
use Rattle.plan_upmap.proofs.land.Goals as goal

pub returns-in_err-to : goal.returns-in_err-to
returns-in_err-to c = rw c.from_residual.ensures (landing_none _ _ _ _ _ _ _ c.descend.ensures c.in_err-to.was)

pub is_node-requires : goal.is_node-requires
is_node-requires c = omega (arith, within_at _ _ _ c.descend.ensures.within c.in_ok-to.was, c.args.elements.now.formed.long)

pub returns-then-is_node : goal.returns-then-is_node
returns-then-is_node c = landing_on_node _ _ _ _ _ _ _ c.descend.ensures _ c.in_ok-to.was _ c.is_node.ensures c.requires.0 c.if-is_node.true

pub returns-then-is_node-2 : goal.returns-then-is_node-2
returns-then-is_node-2 c = landing_refused _ _ _ _ _ _ _ c.descend.ensures _ c.in_ok-to.was _ c.is_node.ensures c.requires.0 _ c.is_node-2.ensures c.if-is_node.false c.if-is_node-2.true

pub returns : goal.returns
returns c = landing_of_token _ _ _ _ _ _ _ c.descend.ensures _ c.in_ok-to.was _ c.is_node.ensures c.requires.0 _ c.is_node-2.ensures c.if-is_node.false c.if-is_node-2.false
