-- `link_dependents` meets its contract. The invariant: the ranked places behind those that the iterator has left are linked.
use native.Mathlib.Omega.{arith}
use Rattle.plan_postorder.proofs.Linking.{linking_start, linking_done, place_below, told_below, linking_next, linking_skip}
use Rattle.plan_postorder.proofs.link_dependents.Goals as goal

pub loop-place-init : goal.loop-place-init
loop-place-init c = linking_start _ _ _ _ _ (grind arith) c.requires.unlinked.0 c.requires.unlinked.1

pub bounds-next-k : goal.bounds-next-k
bounds-next-k c = place_below c.loop-place.invariant c.requires.ranked.0 c.requires.ranked.1 _ _ c.in-Some.ensures.steps

pub overflow_cast-first : goal.overflow_cast-first
overflow_cast-first c = record { fits = told_below c.loop-place.invariant c.requires.ranked.0 c.requires.ranked.1 _ _ c.in-Some.ensures.steps }

pub loop-place-preserved : goal.loop-place-preserved
loop-place-preserved c = linking_next c.loop-place.invariant c.requires.ranked.0 c.requires.ranked.1 _ _ c.in-Some.ensures.steps c.in-Some-owner_of.ensures

pub loop-place-preserved-in_default : goal.loop-place-preserved-in_default
loop-place-preserved-in_default c = linking_skip c.loop-place.invariant c.requires.ranked.0 c.requires.ranked.1 _ _ c.in-Some.ensures.steps c.in_default.ensures

pub returns : goal.returns
returns c = linking_done _ _ _ _ _ c.loop-place.invariant c.in-None.ensures.steps.0
