-- `apart_from` meets its contract: the library's test of a list is the definition's.
use Rattle.std.proofs.Common.{refl, arith, rules, tests}
use Rattle.std.proofs.lemmas.Iterator.{YieldsList-from_range}
use Rattle.std.proofs.lemmas.Iterator.Search.{all_from_yields_List}
use Rattle.rows_model.specs.Row.{first_rows}
use Rattle.splices_model.specs.Cuts.{cut_at}
use Rattle.splices_model.specs.Verdict.{apart_cut}
use Rattle.splices_apart.proofs.Turns.{from_listed}
use Rattle.splices_apart.proofs.apart_from.Goals as goal

pub returns : goal.returns
returns c =
    let s = c.args.splices.now.words.now in
    from_listed (λ text prepared. all_from_yields_List (λ k. apart_cut (first_rows text c.args.rows.now.count c.args.rows.now.words.now) (cut_at text s prepared c.args.i) (cut_at text s prepared k)) _ _ _ c.all.ensures.ran (YieldsList-from_range 0 c.args.i c.args.i refl (omega arith)) (λ x b q k. search (rules, tests)))
