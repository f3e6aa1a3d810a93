-- `text_bytes` meets its contract: the library's sum over the rows, which are few and short.
use Rattle.std.proofs.Common.{arith, rules, tests, ◌∙◌, ◌^◌, ◌/◌, length}
use Rattle.std.proofs.lemmas.Iterator.{YieldsList-from_range, YieldsList-from_map}
use Rattle.std.proofs.lemmas.Iterator.Adapters.{at_most_from_yields_List, fits_from_length}
use Rattle.std.proofs.lemmas.Iterator.Consumers.{sum_from_yields_List}
use Rattle.std.proofs.lemmas.List.FromFn.{length-range_with_len}
use Rattle.rows_syntax_node.proofs.Turns.{own_at, own_summed}
use Rattle.rows_syntax_node.proofs.text_bytes.Goals as goal

pub sum-requires-clause-fits : goal.sum-requires-clause-fits
sum-requires-clause-fits c =
    let n = length c.args.run.now / 3 in
    fits_from_length _ _ 65536 _ (at_most_from_yields_List (YieldsList-from_range 0 n n (search rules) (omega arith)) (omega (arith, length-range_with_len 0 n))) c.map.ensures.closure (omega arith) (λ x r q k. search (rules, tests))

pub returns : goal.returns
returns c =
    let t = c.args.run.now in
    let n = length t / 3 in
    let p = c.sum.ensures.runs tt in
    record {
      sum = λ text. sum_from_yields_List _ _ c.sum.ensures.ran (YieldsList-from_map _ (own_at text t) (YieldsList-from_range 0 n n (search rules) (omega arith)) c.map.ensures.closure (λ x r q k. search (rules, tests))) ∙ own_summed text t;
      small = omega (arith, p.3, fits_from_length _ _ 65536 (2 ^ 48) (at_most_from_yields_List (YieldsList-from_range 0 n n (search rules) (omega arith)) (omega (arith, length-range_with_len 0 n))) c.map.ensures.closure (omega arith) (λ x r q k. search (rules, tests)) p.0 p.0.seen p.1);
    }
