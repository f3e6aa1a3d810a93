-- `rows_to` meets its contract: the library's sum is the definition's, and its terms are few and small.
use Rattle.std.proofs.Common.{arith, rules, tests, ◌∙◌, ◌^◌}
use Rattle.std.proofs.lemmas.Iterator.{YieldsList-from_range, YieldsList-from_map}
use Rattle.std.proofs.lemmas.Iterator.Adapters.{at_most_from_yields_List, fits_from_length}
use Rattle.std.proofs.lemmas.Iterator.Consumers.{sum_from_yields_List}
use Rattle.std.proofs.lemmas.List.FromFn.{length-range_with_len}
use Rattle.splices_check.proofs.Turns.{rows_at, summed}
use Rattle.splices_check.proofs.rows_to.Goals as goal

pub sum-requires-clause-fits : goal.sum-requires-clause-fits
sum-requires-clause-fits c =
    let s = c.args.splices.now in
    fits_from_length _ _ 32768 _ (at_most_from_yields_List (YieldsList-from_range 0 s.count s.count (search rules) (omega arith)) (omega (arith, length-range_with_len 0 s.count))) c.map.ensures.closure (omega arith) (λ x r q k. search (rules, tests))

pub returns : goal.returns
returns c =
    let s = c.args.splices.now in
    let e = sum_from_yields_List _ _ c.sum.ensures.ran (YieldsList-from_map _ (rows_at s.words.now) (YieldsList-from_range 0 s.count s.count (search rules) (omega arith)) c.map.ensures.closure (λ x r q k. search (rules, tests))) in
    let p = c.sum.ensures.runs tt in
    (e ∙ summed s.words.now s.count, omega (arith, p.3, fits_from_length _ _ 32768 (2 ^ 48) (at_most_from_yields_List (YieldsList-from_range 0 s.count s.count (search rules) (omega arith)) (omega (arith, length-range_with_len 0 s.count))) c.map.ensures.closure (omega arith) (λ x r q k. search (rules, tests)) p.0 p.0.seen p.1))
