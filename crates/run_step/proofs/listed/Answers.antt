-- `listed` meets its contract.
use native.Mathlib.Omega.{arith}
use Rattle.run_step.proofs.Performing.{listed_end, listed_part}
use Rattle.run_step.proofs.listed.Goals as goal

pub slice_bounds-result-end : goal.slice_bounds-result-end
slice_bounds-result-end c = let q = listed_end c.args.task.now.listed.now c.args.task.now.changes.now c.args.k c.field-from.ensures c.field.ensures c.requires.1 in omega arith

pub returns : goal.returns
returns c = listed_part c.args.task.now.listed.now c.args.task.now.changes.now c.args.k c.field-from.ensures c.field.ensures
