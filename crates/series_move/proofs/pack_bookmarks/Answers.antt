-- `pack_bookmarks` meets its contract.
use native.Mathlib.Omega.{arith}
use mathlib.Core.Path.{refl, ◌∙◌}
use Rattle.series_move.specs.Packing.{packing_start, packing_here, packing_next, packing_done}
use Rattle.series_move.proofs.pack_bookmarks.Goals as goal

pub loop-i-init : goal.loop-i-init
loop-i-init c = (refl, packing_start _ _ _ _ _ _ _)

pub move_bookmark-to-requires : goal.move_bookmark-to-requires
move_bookmark-to-requires c = record { here = packing_here c.loop-i.invariant.1 c.requires.moving c.loop-i-test.true; i_in_bounds = (omega (arith, c.loop-i.invariant.1.same, c.requires.k_in_bounds, c.loop-i-test.true), omega (arith, c.loop-i.invariant.1.low), omega (arith, c.requires.k_in_bounds, c.loop-i-test.true), omega (arith, c.loop-i.invariant.0, c.requires.k_in_bounds)) }

pub loop-i-preserved : goal.loop-i-preserved
loop-i-preserved c = (c.move_bookmark-to.auto.path ∙ c.loop-i.invariant.0, packing_next c.loop-i.invariant.1 c.requires.moving c.loop-i-test.true c.requires.k_in_bounds.0 c.move_bookmark-to.ensures)

pub shape_of-bookmarks : goal.shape_of-bookmarks
shape_of-bookmarks c = c.loop-i.invariant.1.same

pub shape_of-path : goal.shape_of-path
shape_of-path c = c.loop-i.invariant.0

pub returns : goal.returns
returns c = (omega (arith, c.loop-i.invariant.1.low, c.loop-i.invariant.1.bound), λ v. packing_done c.loop-i.invariant.1 c.loop-i-test.false v)
