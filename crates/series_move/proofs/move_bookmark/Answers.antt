-- `move_bookmark` meets its contract.
use native.Mathlib.Omega.{arith}
use lib.ListN.{drop, length-drop}
use mathlib.Core.Path.{refl, sym}
use Prim.Native.Nat.{◌+◌, ◌-◌}
use lib.Seq.{length-take-le}
use Rattle.series_move.specs.Kept.{front_short, here_short, here_stands, here_kept, here_dropped}
use Rattle.series_move.proofs.move_bookmark.Goals as goal

pub slice_bounds-path_now-end : goal.slice_bounds-path_now-end
slice_bounds-path_now-end c = omega (arith, here_short _ _ c.slot_at-at.ensures c.word-k.ensures c.requires.here, c.slot_at-at.ensures, c.requires.i_in_bounds)

pub path_now-requires : goal.path_now-requires
path_now-requires c = record { stands = here_stands _ _ c.slot_at-at.ensures c.word-k.ensures c.requires.here; path_in_bounds = omega (arith, here_short _ _ c.slot_at-at.ensures c.word-k.ensures c.requires.here, c.requires.i_in_bounds, length-take-le (c.slot_at-at.result + 2 + c.word-k.result - (c.slot_at-at.result + 2)) (drop (c.slot_at-at.result + 2) c.args.bookmarks.now) (omega (arith, here_short _ _ c.slot_at-at.ensures c.word-k.ensures c.requires.here, c.slot_at-at.ensures, c.requires.i_in_bounds, length-drop (c.slot_at-at.result + 2) c.args.bookmarks.now))) }

pub slice_bounds-put_bookmark-end : goal.slice_bounds-put_bookmark-end
slice_bounds-put_bookmark-end c = omega (arith, here_short _ _ c.slot_at-at.ensures c.word-k.ensures c.requires.here, c.requires.i_in_bounds)

pub slice_bounds-put_bookmark-end-then-path_now : goal.slice_bounds-put_bookmark-end-then-path_now
slice_bounds-put_bookmark-end-then-path_now c = sym (length-take-le _ _ (omega (arith, here_short _ _ c.slot_at-at.ensures c.word-k.ensures c.requires.here, c.requires.i_in_bounds)))

pub put_bookmark-requires : goal.put_bookmark-requires
put_bookmark-requires c = (omega (arith, c.requires.i_in_bounds), omega (arith, c.requires.i_in_bounds), front_short _ (here_short _ _ c.slot_at-at.ensures c.word-k.ensures c.requires.here))

pub returns-then-path_now : goal.returns-then-path_now
returns-then-path_now c = λ h. here_kept _ _ c.slot_at-at.ensures c.word-k.ensures h c.path_now.ensures _ c.if-path_now.true refl c.put_bookmark.ensures c.requires.i_in_bounds.0

pub returns : goal.returns
returns c = λ h. here_dropped _ _ c.slot_at-at.ensures c.word-k.ensures h c.path_now.ensures _ c.if-path_now.false
