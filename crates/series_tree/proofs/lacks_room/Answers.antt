-- `lacks_room` meets its contract.
use native.Mathlib.Omega.{arith}
use Rattle.series_tree.specs.New.{room_told}
use Rattle.finish_arrays.specs.NewTree.{tree_bytes}
use Rattle.series_tree.proofs.lacks_room.Goals as goal

pub text_size-size-requires : goal.text_size-size-requires
text_size-size-requires c = (omega (arith, c.first_tree-tree.ensures.short, c.args.rows.now.few), tree_bytes c.first_tree-tree.ensures.part _ c.requires.1)

pub returns : goal.returns
returns c = room_told _ c.first_tree-tree.ensures.part c.text_size-size.ensures _
