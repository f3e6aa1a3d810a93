-- `too_short` meets its contract: the library's test of a list is the definition's.
use mathlib.Core.Path.{◌∙◌}
use Rattle.std.proofs.Common.{rules, tests, ltb, ℕ}
use Rattle.std.proofs.lemmas.Iterator.{YieldsList-from_slice}
use Rattle.std.proofs.lemmas.Iterator.Search.{any_from_yields_List}
use Rattle.orders.specs.ListLaws.{some_alike}
use Rattle.definition.specs.Answers.{too_short}
use Rattle.promises.specs.Slices.{lengths}
use Rattle.check_claim.specs.Lent.{held}
use Rattle.check_claim.specs.Promise.{checker_needs}
use Rattle.check_claim.proofs.too_short.Goals as goal

pub returns : goal.returns
unfolding too_short lengths checker_needs mathlib.Core.List.zip
returns c =
    any_from_yields_List {all = lengths checker_needs (held c.args.work.now)} (λ (s : ℕ × ℕ). ltb s.0 s.1) _ _ _ c.any.ensures.ran (YieldsList-from_slice _ cc) (λ x b q k. search (rules, tests))
    ∙ some_alike _ _
