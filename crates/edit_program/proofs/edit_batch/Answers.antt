-- `edit_batch` meets its contract: work slices of their lengths are long enough, so an answer that keeps its promise tells what is printed.
-- Assumes nothing.
use Rattle.promises.specs.Slices.{needed, filled, filled_suffice}
use Rattle.edit_program.specs.Told.{edit_tells}
use native.Mathlib.Omega.{arith}
use Rattle.edit_program.proofs.edit_batch.Goals as goal

pub returns : goal.returns
unfolding needed filled
returns c = edit_tells c.edit.ensures.edits c.requires.1 (filled_suffice 0) c.requires.0 (λ i. omega (arith, c.type_inv.batch i))
