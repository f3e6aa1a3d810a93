-- `upmap_below` meets its contract. One law for each answer.
use borrow.Author.Rules.{rules}
use mathlib.Core.Path.{sym}
use lib.Seq.{length-take-le}
use native.Mathlib.Omega.{arith}
use Rattle.std.proofs.lemmas.Result.{err_from_is_err_and}
use Rattle.plan_upmap.proofs.Moving.{moving_refused, moving_missing, moving_nowhere, moving_to}
use Rattle.plan_mapping.specs.Answers.{trail_room}
use Rattle.plan_upmap.specs.Answers.{within_at}
use Rattle.plan_upmap.proofs.upmap_below.Goals as goal

pub returns-in_err-steps : goal.returns-in_err-steps
returns-in_err-steps c =
    let p = err_from_is_err_and c.from_residual.result c.from_residual.ensures.1 in
    rw (p.1, p.2) (moving_refused _ _ _ _ _ _ _ _ _ _ c.upmap_to_ancestor.ensures _ c.in_err-steps.was)

pub slice_bounds-trail-end : goal.slice_bounds-trail-end
slice_bounds-trail-end c = (trail_room c.upmap_to_ancestor.ensures c.in_ok-steps.was).1

pub slice_bounds-descend-end : goal.slice_bounds-descend-end
slice_bounds-descend-end c = sym (length-take-le _ _ (trail_room c.upmap_to_ancestor.ensures c.in_ok-steps.was).1)

pub returns-in_err-x : goal.returns-in_err-x
returns-in_err-x c =
    let p = err_from_is_err_and c.from_residual-in_err-x.result c.from_residual-in_err-x.ensures.1 in
    rw (p.1, p.2) (moving_missing _ _ _ _ _ _ _ _ _ _ c.upmap_to_ancestor.ensures _ c.in_ok-steps.was _ c.descend.ensures _ c.ok_or.ensures.value c.in_err-x.was)

pub land-requires : goal.land-requires
land-requires c = (search rules, within_at _ _ _ c.descend.ensures.within (grind arith))

pub returns-in_err-element : goal.returns-in_err-element
returns-in_err-element c =
    let p = err_from_is_err_and c.from_residual-in_err-element.result c.from_residual-in_err-element.ensures.1 in
    rw (p.1, p.2) (moving_nowhere _ _ _ _ _ _ _ _ _ _ c.upmap_to_ancestor.ensures _ c.in_ok-steps.was _ c.descend.ensures _ (grind arith) _ c.land.ensures _ c.ok_or-2.ensures.value c.in_err-element.was)

pub returns : goal.returns
returns c = moving_to _ _ _ _ _ _ _ _ _ _ c.upmap_to_ancestor.ensures _ c.in_ok-steps.was _ c.descend.ensures _ (grind arith) _ c.land.ensures _ (grind arith)
