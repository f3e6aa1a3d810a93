-- `kept` meets its contract: the marks of the old tree, by the rows of the new one.
use Rattle.kept_rows.proofs.Ways.{marks_cut, marks_few, kept_told}
use Rattle.kept_rows.proofs.kept.Goals as goal

pub slice_bounds-hand_out-end : goal.slice_bounds-hand_out-end
slice_bounds-hand_out-end c = marks_cut c.first_tree.ensures.part c.first_tree.ensures.short _ c.requires.2

pub hand_out-requires : goal.hand_out-requires
hand_out-requires c = marks_few c.first_tree.ensures.part c.first_tree.ensures.short _ c.requires.2 c.requires.1

pub returns : goal.returns
returns c = kept_told c.first_tree.ensures.part c.first_tree.ensures.short _ c.requires.2 c.first_tree-2.ensures.part c.hand_out.ensures
