-- `write_tree` meets its contract.
use native.Mathlib.Omega.{arith}
use mathlib.Core.Path.{ap, ◌∙◌}
use Rattle.series_tree.specs.New.{bytes_told, part_new}
use Rattle.series_laws.specs.Lent.{tree_out, over}
use Rattle.finish_arrays.specs.NewTree.{tree_bytes}
use Rattle.series_tree.proofs.write_tree.Goals as goal

pub text_size-size-requires : goal.text_size-size-requires
text_size-size-requires c = (omega (arith, c.first_tree-tree.ensures.short, c.args.rows.now.few), tree_bytes c.first_tree-tree.ensures.part _ c.requires.some_rows.1)

pub write_flat-requires : goal.write_flat-requires
write_flat-requires c = record { size_in_bounds = (omega (arith, bytes_told _ c.first_tree-tree.ensures.part c.text_size-size.ensures, c.requires.room), omega (arith, c.first_tree-tree.ensures.short, c.args.rows.now.few)); size_value = c.text_size-size.ensures }

pub returns : goal.returns
returns c = c.write_flat.ensures ∙ ap (λ f. over (tree_out f) c.args.memory.now) (part_new _ c.first_tree-tree.ensures.part)
