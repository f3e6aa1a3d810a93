-- `put_bookmark` meets its contract.
use native.Mathlib.Omega.{arith}
use lib.ListN.{length-set}
use Rattle.series_move.specs.Moved.{put_told, put_length}
use Rattle.series_move.proofs.put_bookmark.Goals as goal

pub bounds-bookmarks-at-2 : goal.bounds-bookmarks-at-2
bounds-bookmarks-at-2 c = simp length-set (omega (arith, c.slot_at-at.ensures, c.requires))

pub copy_in-requires : goal.copy_in-requires
copy_in-requires c = simp length-set (omega (arith, c.slot_at-at.ensures, c.requires))

pub shape_of-bookmarks : goal.shape_of-bookmarks
shape_of-bookmarks c = put_length c.args.bookmarks.now c.args.to c.args.number c.args.path.now c.slot_at-at.ensures c.requires.0 c.requires.2 c.copy_in.ensures

pub returns : goal.returns
returns c = put_told c.args.bookmarks.now c.args.to c.args.number c.args.path.now c.slot_at-at.ensures c.requires.0 c.requires.2 c.copy_in.ensures
