-- `move_bookmarks` meets its contract.
use native.Mathlib.Omega.{arith}
use Rattle.series_move.specs.Packing.{after_told, count_moving}
use Rattle.series_move.proofs.move_bookmarks.Goals as goal

pub invariant_of-ways : goal.invariant_of-ways
invariant_of-ways c = record { told = record { children = c.fill_children.ensures; trees = c.fill_begun.ensures } }

pub pack_bookmarks-to-requires : goal.pack_bookmarks-to-requires
pack_bookmarks-to-requires c = record { moving = count_moving c.word-k.ensures c.requires.moving; k_in_bounds = (omega (arith, c.word-k.ensures.0, c.requires.bookmarks_in_bounds.0), c.word-k.ensures.1, omega arith) }

pub returns : goal.returns
returns c = λ v. after_told _ c.word-k.ensures (omega (arith, c.pack_bookmarks-to.auto.bookmarks, c.requires.bookmarks_in_bounds.0)) c.pack_bookmarks-to.ensures.1 v
