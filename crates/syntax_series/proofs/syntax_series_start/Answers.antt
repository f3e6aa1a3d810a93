-- `syntax_series_start` meets its contract.
-- Assumes nothing.
use mathlib.Core.Path.{ap, ◌∙◌}
use native.Mathlib.Omega.{arith}
use Rattle.std.specs.Prelude.{pos, neg_ℤ}
use Rattle.refusals.specs.Numbers.{answered}
use Rattle.edit_numbers.specs.ReturnedBatch.{Few, length_number}
use Rattle.syntax_series.specs.Returned.{start_small, start_begun, start_returned}
use Rattle.syntax_series.proofs.syntax_series_start.Goals as goal

pub negative-requires : goal.negative-requires
unfolding Few answered
negative-requires c = omega (arith, start_small c.start.ensures _ c.in-Err.is, c.number.ensures)

pub returns-in-Ok : goal.returns-in-Ok
returns-in-Ok c = start_begun c.start.ensures c.in-Ok.is

pub returns-in-Err : goal.returns-in-Err
unfolding length_number answered
returns-in-Err c = start_returned c.start.ensures _ c.in-Err.is _ (c.negative.ensures ∙ ap (λ n. neg_ℤ (pos n)) c.number.ensures)
