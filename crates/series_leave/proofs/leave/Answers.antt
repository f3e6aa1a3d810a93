-- `leave` meets its contract.
use Rattle.series_leave.specs.Leaving.{leaving_fits, leaving_moves, leaving_slots, leaving_left}
use Rattle.series_leave.proofs.leave.Goals as goal

pub write_tree-requires : goal.write_tree-requires
write_tree-requires c = record { some_rows = (c.requires.leaving.some_rows, c.requires.leaving.few_bytes); room = leaving_fits c.requires.leaving }

pub move_bookmarks-requires : goal.move_bookmarks-requires
move_bookmarks-requires c = record { moving = leaving_moves c.requires.leaving; bookmarks_in_bounds = (leaving_slots c.requires.leaving, c.requires.spare_in_bounds) }

pub returns : goal.returns
returns c = λ v. leaving_left v c.write_tree.ensures c.move_bookmarks.ensures
