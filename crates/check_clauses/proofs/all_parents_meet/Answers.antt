-- `all_parents_meet` meets its contract: the library's test of a list is the definition's.
use Rattle.std.proofs.Common.{rules, tests, ◌∙◌}
use Rattle.std.proofs.lemmas.Iterator.{YieldsList-from_slice, YieldsList-from_zip}
use Rattle.std.proofs.lemmas.Iterator.Adapters.{serves_from_places}
use Rattle.std.proofs.lemmas.Iterator.Search.{all_from_yields_List}
use Rattle.check_model.specs.Clauses.{parents_meet}
use Rattle.check_clauses.proofs.Turns.{pairs_alike, pair_has, climbed_long, climbed_all}
use Rattle.check_clauses.proofs.all_parents_meet.Goals as goal

pub all-requires-clause-callable : goal.all-requires-clause-callable
all-requires-clause-callable c =
    serves_from_places (YieldsList-from_zip (YieldsList-from_slice c.args.pairs.now.olds.now cc) (YieldsList-from_slice c.args.pairs.now.news.now cc)) (λ x q k. search (rules, tests)) (λ x k h e. let w = pair_has _ _ _ _ k h e (climbed_long c.requires.0) (climbed_all _ c.requires.1 c.requires.2) in search rules)

pub returns : goal.returns
returns c =
    all_from_yields_List (parents_meet c.args.old.now c.args.new.now c.args.partners.now) c.all.new.self _ _ c.all.ensures.ran (YieldsList-from_zip (YieldsList-from_slice c.args.pairs.now.olds.now cc) (YieldsList-from_slice c.args.pairs.now.news.now cc)) (λ x b q k. search (rules, tests)) ∙ pairs_alike _ _ _
