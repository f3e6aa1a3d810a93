-- `same_tree` meets its contract.
use Rattle.series_tree.specs.Same.{same_within, same_told}
use Rattle.series_tree.proofs.same_tree.Goals as goal

pub slice_bounds-same_arrays-end : goal.slice_bounds-same_arrays-end
slice_bounds-same_arrays-end c = (same_within c.requires c.first_tree-first.ensures.part c.text_bytes.ensures).2

pub returns : goal.returns
returns c = λ a x. same_told c.requires c.first_tree-first.ensures.part c.text_bytes.ensures _ c.same_arrays.ensures a x
