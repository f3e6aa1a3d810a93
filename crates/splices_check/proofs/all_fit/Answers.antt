-- `all_fit` meets its contract: the library's test of a list is the definition's.
use Rattle.std.proofs.Common.{refl, arith, rules, tests}
use Rattle.std.proofs.lemmas.Iterator.{YieldsList-from_range}
use Rattle.std.proofs.lemmas.Iterator.Search.{all_from_yields_List}
use Rattle.splices_model.specs.Verdict.{fit_at}
use Rattle.splices_check.proofs.Turns.{all_listed}
use Rattle.splices_check.proofs.all_fit.Goals as goal

pub returns : goal.returns
returns c =
    let l = c.args.list.now in
    all_listed (λ text. all_from_yields_List (fit_at text c.args.rows.now.words.now c.args.rows.now.count l.splices.words.now l.prepared.now) _ _ _ c.all.ensures.ran (YieldsList-from_range 0 l.splices.count l.splices.count refl (omega arith)) (λ x b q k. search (rules, tests)))
