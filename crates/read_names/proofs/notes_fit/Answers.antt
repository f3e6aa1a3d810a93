-- `notes_fit` meets its contract: no note is wrong.
use mathlib.Core.Path.{refl, ◌∙◌}
use Rattle.std.proofs.Common.{arith, rules, tests}
use Rattle.std.proofs.lemmas.Iterator.{YieldsList-from_range}
use Rattle.std.proofs.lemmas.Iterator.Search.{all_from_yields_List}
use Rattle.std.specs.List.{range_with_len}
use Rattle.read_names.specs.Noted.{note_wrong}
use Rattle.read_names.proofs.Passing.{pair_passes, pairs_pass}
use Rattle.read_names.proofs.notes_fit.Goals as goal

pub returns : goal.returns
returns c =
    all_from_yields_List {v = λ x. x} {all = range_with_len 0 c.args.noted.now.count} (pair_passes (note_wrong c.args.n) c.args.noted.now c.args.numbers.now) _ _ _ c.all.ensures.ran (YieldsList-from_range 0 c.args.noted.now.count c.args.noted.now.count refl (omega arith)) (λ x b q k. search (rules, tests))
    ∙ pairs_pass (note_wrong c.args.n) c.args.noted.now c.args.numbers.now c.requires
