-- `placed` meets its contract: its sums are those of the definition.
use mathlib.Core.Path.{refl}
use Rattle.read_layout.specs.Layout.{layout_of}
use Rattle.read_layout.proofs.placed.Goals as goal

pub returns : goal.returns
unfolding layout_of
returns c = refl
