-- `all_apart` meets its contract: the library's test of a list is the definition's.
use Rattle.std.proofs.Common.{refl, arith, rules, tests}
use Rattle.std.proofs.lemmas.Iterator.{YieldsList-from_range}
use Rattle.std.proofs.lemmas.Iterator.Search.{all_from_yields_List}
use Rattle.rows_model.specs.Row.{first_rows}
use Rattle.splices_apart.proofs.Turns.{from_each, all_listed}
use Rattle.splices_apart.proofs.all_apart.Goals as goal

pub returns : goal.returns
returns c =
    let s = c.args.splices.now in
    all_listed (λ text prepared. all_from_yields_List (from_each text s.words.now prepared (first_rows text c.args.rows.now.count c.args.rows.now.words.now)) _ _ _ c.all.ensures.ran (YieldsList-from_range 0 s.count s.count refl (omega arith)) (λ x b q k. search (rules, tests)))
