-- `write_in_step` meets its contract: what is laid out is handed over.
use Rattle.write_batch.proofs.Ways.{part_long, part_within, laid_handed}
use Rattle.write_batch.proofs.write_in_step.Goals as goal

pub lay_out-n-requires-clause-in_bounds : goal.lay_out-n-requires-clause-in_bounds
lay_out-n-requires-clause-in_bounds c = c.requires.in_bounds.0

pub slice_bounds-hand_over-end : goal.slice_bounds-hand_over-end
slice_bounds-hand_over-end c = part_within c.lay_out-n.ensures

pub slice_bounds-hand_over-end-2 : goal.slice_bounds-hand_over-end-2
slice_bounds-hand_over-end-2 c = part_long c.lay_out-n.ensures

pub returns : goal.returns
returns c = laid_handed _ _ _ c.lay_out-n.ensures.stands c.hand_over.ensures
