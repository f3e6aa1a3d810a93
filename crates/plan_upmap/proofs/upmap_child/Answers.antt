-- `upmap_child` meets its contract. One law for each answer.
use mathlib.Core.Path.{sym}
use lib.Seq.{length-take-le}
use native.Mathlib.Omega.{arith}
use Rattle.std.proofs.lemmas.Result.{err_from_is_err_and}
use Rattle.plan_mapping.specs.Answers.{place_room}
use Rattle.plan_upmap.proofs.Moving.{moving_elsewhere, moving_from}
use Rattle.plan_upmap.proofs.upmap_child.Goals as goal

pub returns-in_err-depth : goal.returns-in_err-depth
returns-in_err-depth c =
    let p = err_from_is_err_and c.from_residual.result c.from_residual.ensures.1 in
    rw (p.1, p.2) (moving_elsewhere _ _ _ _ _ _ _ _ _ c.place_below.ensures _ c.ok_or.ensures.value c.in_err-depth.was)

pub slice_bounds-place-end : goal.slice_bounds-place-end
slice_bounds-place-end c = place_room c.place_below.ensures (grind arith)

pub slice_bounds-upmap_below-end : goal.slice_bounds-upmap_below-end
slice_bounds-upmap_below-end c = sym (length-take-le _ _ (place_room c.place_below.ensures (grind arith)))

pub returns : goal.returns
returns c = moving_from _ _ _ _ _ _ _ _ _ c.place_below.ensures _ (grind arith) _ c.upmap_below.ensures
