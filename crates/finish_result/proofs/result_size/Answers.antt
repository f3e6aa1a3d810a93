-- `result_size` meets its contract: the new tree, what is counted in it, and its text.
use native.Mathlib.Omega.{arith}
use Rattle.finish_result.proofs.Stages.{tree_light, tree_weighs}
use Rattle.finish_result.proofs.result_size.Goals as goal

pub text_size-size-requires : goal.text_size-size-requires
text_size-size-requires c = (omega (arith, c.first_tree-tree.ensures.short, c.args.left.now.rows.few), tree_light c.first_tree-tree.ensures.part c.args.left.now.light)

pub bytes_of-requires : goal.bytes_of-requires
bytes_of-requires c = (omega (arith, c.first_tree-tree.ensures.short, c.args.left.now.rows.few), c.text_size-size.ensures.1, omega (arith, c.count_changed-changes.ensures.most, c.requires.1), omega (arith, c.count_notes-annotations.ensures.most, c.requires.0))

pub returns : goal.returns
returns c = tree_weighs c.first_tree-tree.ensures.part _ _ _ _ _ c.text_size-size.ensures c.count_changed-changes.ensures c.count_notes-annotations.ensures c.bytes_of.ensures
