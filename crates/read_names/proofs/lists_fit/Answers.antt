-- `lists_fit` meets its contract: no call word is too many.
use mathlib.Core.Path.{refl, ◌∙◌}
use Rattle.std.proofs.Common.{arith, rules, tests}
use Rattle.std.proofs.lemmas.Iterator.{YieldsList-from_range}
use Rattle.std.proofs.lemmas.Iterator.Search.{all_from_yields_List}
use Rattle.std.specs.List.{range_with_len}
use Rattle.read_names.specs.Called.{word_too_many}
use Rattle.read_names.proofs.Passing.{passes, words_pass}
use Rattle.read_names.proofs.lists_fit.Goals as goal

pub returns : goal.returns
returns c =
    all_from_yields_List {v = λ x. x} {all = range_with_len 0 c.args.calls.now.count} (passes word_too_many c.args.calls.now) _ _ _ c.all.ensures.ran (YieldsList-from_range 0 c.args.calls.now.count c.args.calls.now.count refl (omega arith)) (λ x b q k. search (rules, tests))
    ∙ words_pass word_too_many c.args.calls.now
