-- `repeats` meets its contract: the library's test of the places is the definition's.
use Rattle.std.proofs.Common.{arith, ◌∙◌, rules, tests}
use lib.ListN.{length}
use Rattle.std.proofs.lemmas.Iterator.{YieldsList-from_range}
use Rattle.std.proofs.lemmas.Iterator.Search.{any_from_yields_List}
use Rattle.series_check.proofs.Numbers.{again, repeat_listed}
use Rattle.series_check.proofs.repeats.Goals as goal

pub returns : goal.returns
returns c =
    let l = c.args.numbers.now in
    any_from_yields_List (again l) _ _ _ c.any.ensures.ran (YieldsList-from_range 0 (length l) (length l) (search rules) (omega arith)) (λ x b q k. search (rules, tests))
    ∙ repeat_listed l 0 (length l) (omega arith)
