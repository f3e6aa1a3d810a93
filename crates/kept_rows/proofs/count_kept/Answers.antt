-- `count_kept` meets its contract: the library keeps as many marks as there are pairs.
use Prim.Native.Nat.{ℕ}
use Rattle.std.specs.Prelude.{is_some}
use Rattle.std.proofs.Common.{rules, tests}
use Rattle.std.proofs.lemmas.Iterator.{YieldsList-from_slice}
use Rattle.std.proofs.lemmas.Iterator.Consumers.{YieldsList-from_filter, count_from_yields_List}
use Rattle.rows_model.specs.Place.{in_run}
use Rattle.finish_model.specs.Numbered.{told, told_there, test_told}
use Rattle.kept_rows.proofs.Ways.{kept_counted}
use Rattle.kept_rows.proofs.count_kept.Goals as goal

pub returns : goal.returns
returns c =
    let p = λ (m : ℕ). is_some (told (in_run 1 c.args.end m)) in
    kept_counted c.args.end p (λ m. told_there (in_run 1 c.args.end m)) c.args.marks.now
    (count_from_yields_List c.filter.result _ c.count.ensures.ran (YieldsList-from_filter _ p (YieldsList-from_slice c.args.marks.now cc) c.filter.ensures.closure (λ x b q k. search (test_told, rules, tests))))
    c.requires
