-- `count_discarded` meets its contract: the places that it counts are those of discarded changes.
use mathlib.Core.Path.{◌∙◌}
use Rattle.std.proofs.Common.{arith, rules, tests}
use Rattle.std.proofs.lemmas.Iterator.{YieldsList-from_range}
use Rattle.std.proofs.lemmas.Iterator.Consumers.{YieldsList-from_filter, count_from_yields_List}
use Rattle.plan_edit.specs.Counted.{discards_at, discarded_counted, discarded_few}
use Rattle.plan_edit.proofs.count_discarded.Goals as goal

pub returns : goal.returns
unfolding discards_at
returns c =
    let told = count_from_yields_List _ _ c.count.ensures.ran (YieldsList-from_filter _ (discards_at c.args.rows.now) (YieldsList-from_range 0 c.args.c c.args.c c.filter.ensures.source (omega arith)) c.filter.ensures.closure (λ x r q k. search (rules, tests))) in
    let counted = told ∙ discarded_counted c.args.rows.now c.args.c 0 in
    (counted, omega (arith, counted, discarded_few c.args.c c.args.rows.now))
