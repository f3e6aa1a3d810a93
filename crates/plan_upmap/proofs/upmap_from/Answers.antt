-- `upmap_from` meets its contract. One law for each answer.
use borrow.Author.Rules.{rules}
use mathlib.Core.Path.{sym}
use lib.Seq.{length-take-le}
use native.Mathlib.Omega.{arith}
use Rattle.std.proofs.lemmas.Result.{err_from_is_err_and}
use Rattle.plan_upmap.proofs.Notes.{move_stays, move_elsewhere, move_lands}
use Rattle.plan_mapping.specs.Answers.{place_room}
use Rattle.plan_upmap.proofs.upmap_from.Goals as goal

pub returns-then-entry-a : goal.returns-then-entry-a
returns-then-entry-a c = search (move_stays, rules)

pub returns-in_err-depth : goal.returns-in_err-depth
returns-in_err-depth c =
    let p = err_from_is_err_and c.from_residual.result c.from_residual.ensures.1 in
    rw (p.1, p.2) (move_elsewhere _ _ _ _ _ _ _ c.args.mapping.now.elements.formed.lines c.upmap_node_single-output.ensures.1 c.upmap_node_single-output.ensures.0 _ c.entry.ensures.0 c.if-entry-a.false _ _ c.place_below.ensures _ c.ok_or.ensures.value c.in_err-depth.was)

pub slice_bounds-place-end : goal.slice_bounds-place-end
slice_bounds-place-end c = place_room c.place_below.ensures (grind arith)

pub slice_bounds-land-end : goal.slice_bounds-land-end
slice_bounds-land-end c = sym (length-take-le _ _ (place_room c.place_below.ensures (grind arith)))

pub returns : goal.returns
returns c = rw c.ok_or-2.ensures.value (move_lands _ _ _ _ _ _ _ c.args.mapping.now.elements.formed.lines c.upmap_node_single-output.ensures.1 c.upmap_node_single-output.ensures.0 _ c.entry.ensures.0 c.if-entry-a.false _ _ c.place_below.ensures _ (grind arith) _ c.land.ensures)
