-- `all_accounted` meets its contract: the library's test of a list is the definition's.
use Rattle.std.proofs.Common.{refl, arith, rules, tests, ◌∙◌}
use Rattle.std.proofs.lemmas.Iterator.{YieldsList-from_range}
use Rattle.std.proofs.lemmas.Iterator.Search.{all_from_yields_List}
use Rattle.check_model.specs.Clauses.{accounted}
use Rattle.check_clauses.proofs.Turns.{each_alike}
use Rattle.check_clauses.proofs.all_accounted.Goals as goal

pub returns : goal.returns
returns c =
    all_from_yields_List (accounted c.args.new.now c.args.partners.now c.args.marks.now) _ _ _ c.all.ensures.ran (YieldsList-from_range 0 c.args.n c.args.n refl (omega arith)) (λ x b q k. search (rules, tests)) ∙ each_alike _ 0 c.args.n
