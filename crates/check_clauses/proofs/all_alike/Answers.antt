-- `all_alike` meets its contract: the library's test of a list is the definition's.
use Rattle.std.proofs.Common.{rules, tests, ◌∙◌}
use Rattle.std.proofs.lemmas.Iterator.{YieldsList-from_slice, YieldsList-from_zip}
use Rattle.std.proofs.lemmas.Iterator.Adapters.{serves_from_places}
use Rattle.std.proofs.lemmas.Iterator.Search.{all_from_yields_List}
use Rattle.check_model.specs.Clauses.{alike}
use Rattle.check_clauses.proofs.Turns.{pairs_alike, pair_has, reached_all}
use Rattle.check_clauses.proofs.all_alike.Goals as goal

pub all-requires-clause-callable : goal.all-requires-clause-callable
all-requires-clause-callable c =
    serves_from_places (YieldsList-from_zip (YieldsList-from_slice c.args.pairs.now.olds.now cc) (YieldsList-from_slice c.args.pairs.now.news.now cc)) (λ x q k. search (rules, tests)) (λ x k h e. let w = pair_has _ _ _ _ k h e (reached_all c.requires.0) (reached_all c.requires.1) in search rules)

pub returns : goal.returns
returns c =
    all_from_yields_List (alike c.args.old.now.table.now c.args.new.now.table.now c.args.old.now.text.now c.args.new.now.text.now) c.all.new.self _ _ c.all.ensures.ran (YieldsList-from_zip (YieldsList-from_slice c.args.pairs.now.olds.now cc) (YieldsList-from_slice c.args.pairs.now.news.now cc)) (λ x b q k. search (rules, tests)) ∙ pairs_alike _ _ _
