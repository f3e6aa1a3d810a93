-- `changed_texts` meets its contract: the library's sum over the changed elements, which are few, each with a text that a word can count.
use Rattle.std.proofs.Common.{arith, rules, tests, ◌^◌}
use Rattle.std.proofs.lemmas.Iterator.{YieldsList-from_slice, YieldsList-from_map}
use Rattle.std.proofs.lemmas.Iterator.Adapters.{at_most_from_yields_List, fits_from_length}
use Rattle.std.proofs.lemmas.Iterator.Consumers.{sum_from_yields_List}
use Rattle.share_rows.proofs.Ways.{one_text, texts_told}
use Rattle.share_rows.proofs.changed_texts.Goals as goal

pub sum-requires-clause-fits : goal.sum-requires-clause-fits
sum-requires-clause-fits c = fits_from_length _ _ 65536 _ (at_most_from_yields_List (YieldsList-from_slice c.args.changed.now cc) (omega (arith, c.requires.1))) c.map.ensures.closure (omega arith) (λ x r q k. search (rules, tests))

pub returns : goal.returns
returns c =
    let l = c.args.changed.now in
    let p = c.sum.ensures.runs tt in
    let m = c.args.left.now.rows in
    texts_told (λ text. sum_from_yields_List _ _ c.sum.ensures.ran (YieldsList-from_map _ (one_text m.words.now m.count c.args.end text) (YieldsList-from_slice l cc) c.map.ensures.closure (λ x r q k. search (rules, tests))))
    (omega (arith, p.3, fits_from_length _ _ 65536 (2 ^ 48) (at_most_from_yields_List (YieldsList-from_slice l cc) (omega (arith, c.requires.1))) c.map.ensures.closure (omega arith) (λ x r q k. search (rules, tests)) p.0 p.0.seen p.1))
