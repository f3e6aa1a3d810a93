-- `with_work` meets its contract: the slices are of the lengths of docs/WORK.md.
-- Assumes nothing.
use Rattle.std.proofs.Common.{refl}
use Rattle.promises.specs.Slices.{needed, filled}
use Rattle.promises.proofs.with_work.Goals as goal

pub run-requires : goal.run-requires
unfolding filled needed
run-requires g c = c.requires _ refl

pub returns : goal.returns
unfolding filled needed
returns g c = (_, _, refl, c.run.ensures)
