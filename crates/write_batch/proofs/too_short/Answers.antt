-- `too_short` meets its contract: slice by slice.
use Rattle.std.proofs.lemmas.Grind.{common_steps}
use native.Mathlib.Omega.{arith}
use Rattle.write_batch.proofs.Ways.{one_short}
use Rattle.write_batch.proofs.too_short.Goals as goal

pub returns-then-work-lt16384 : goal.returns-then-work-lt16384
returns-then-work-lt16384 c = one_short _ _ _ _ (grind (arith, common_steps))

pub returns-else-work-lt16384 : goal.returns-else-work-lt16384
returns-else-work-lt16384 c = one_short _ _ _ _ (grind (arith, common_steps))
