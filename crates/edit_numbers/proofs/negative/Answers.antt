-- `negative` meets its contract.
use native.Mathlib.Omega.{arith}
use Rattle.edit_numbers.specs.Negated.{minus_fits, minus_reads}
use Rattle.edit_numbers.proofs.negative.Goals as goal

pub overflow_sub-result : goal.overflow_sub-result
overflow_sub-result c = minus_fits c.args.n (omega arith)

pub returns : goal.returns
returns c = minus_reads c.args.n (omega arith)
