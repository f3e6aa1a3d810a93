-- `stands_again` meets its contract.
use mathlib.Core.Path.{ap, ◌∙◌}
use mathlib.Core.List.{List}
use Prim.Native.Nat.{ℕ, ◌+◌}
use lib.ListN.{get_or}
use Rattle.std.proofs.lemmas.List.{take_rest}
use Rattle.definition.specs.Basics.{among}
use Rattle.series_check.proofs.Numbers.{contained}
use Rattle.series_check.proofs.stands_again.Goals as goal

pub returns : goal.returns
returns c = c.contains.ensures.value ∙ (contained (get_or c.args.numbers.now c.args.i 0) _ ∙ ap (λ (l : List ℕ). among l (get_or c.args.numbers.now c.args.i 0)) (take_rest c.args.numbers.now (c.args.i + 1)))
