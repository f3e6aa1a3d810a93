-- `text_size` meets its contract: the library's sum over the rows, which are no longer than the words say.
use native.Mathlib.Omega.{arith}
use Prim.Native.Nat.{◌/◌}
use lib.ListN.{length}
use Rattle.std.proofs.Common.{◌∙◌, rules, tests}
use Rattle.std.proofs.lemmas.Iterator.{YieldsList-from_range, YieldsList-from_map}
use Rattle.std.proofs.lemmas.Iterator.Consumers.{sum_from_yields_List, fits_from_yields_list}
use Rattle.finish_arrays.proofs.Turns.{part_at, text_summed, text_few}
use Rattle.finish_arrays.proofs.text_size.Goals as goal

pub sum-requires-clause-fits : goal.sum-requires-clause-fits
sum-requires-clause-fits c =
    let t = c.args.tree.now in
    let x = c.args.text.now in
    let n = length t / 3 in
    fits_from_yields_list _ _ (YieldsList-from_map _ (part_at t x) (YieldsList-from_range 0 n n (search rules) (omega arith)) c.map.ensures.closure (λ y r q k. search (rules, tests))) (omega (arith, text_summed t x, text_few t x c.requires.1))

pub returns : goal.returns
returns c =
    let t = c.args.tree.now in
    let x = c.args.text.now in
    let n = length t / 3 in
    let e = sum_from_yields_List _ _ c.sum.ensures.ran (YieldsList-from_map _ (part_at t x) (YieldsList-from_range 0 n n (search rules) (omega arith)) c.map.ensures.closure (λ y r q k. search (rules, tests))) ∙ text_summed t x in
    (e, omega (arith, e, text_few t x c.requires.1))
