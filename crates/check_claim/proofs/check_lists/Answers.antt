-- `check_lists` meets its contract.
use Rattle.check_claim.specs.Held.{claimed}
use Rattle.check_claim.proofs.Ways.{long_enough, refused_size, fits, refused_5, old_telling, new_telling, all_judged}
use Rattle.check_claim.specs.Judging.{answer_of}
use Rattle.check_claim.specs.Promise.{told}
use Rattle.definition.specs.Basics.{refuse, ◌>>=◌}
use Rattle.definition.specs.Answers.{with_work}
use Rattle.std.proofs.lemmas.Bool.Decides.{nat_tests}
use Rattle.refusals.specs.Numbers.{number}
use Rattle.std.proofs.lemmas.Result.{err_from_is_err_and}
use native.Mathlib.Omega.{arith}
use Rattle.check_claim.proofs.check_lists.Goals as goal

pub returns-then-too_short-clause-tells : goal.returns-then-too_short-clause-tells
unfolding answer_of number told with_work refuse ◌>>=◌
returns-then-too_short-clause-tells c = grind (arith, nat_tests)

pub returns-in_err-size_refusal-clause-tells : goal.returns-in_err-size_refusal-clause-tells
unfolding answer_of
returns-in_err-size_refusal-clause-tells c =
    let p = err_from_is_err_and c.from_residual.result c.from_residual.ensures.1 in
    rw (p.1, p.2) (refused_size _ _ _ _ _ c.too_short.ensures c.if-too_short.false c.size_refusal.ensures _ c.in_err-size_refusal.was)

pub read_both-requires : goal.read_both-requires
read_both-requires c =
    let s = long_enough _ _ _ _ _ c.too_short.ensures c.if-too_short.false in
    let f = fits (claimed c.args.claims.now) _ _ _ _ c.too_short.ensures c.if-too_short.false c.size_refusal.ensures c.in_ok-size_refusal.was in record { old_measures_len = (f.old_alike, f.old_few, f.old_short, s.0); new_measures_len = (f.new_alike, f.new_few, f.new_short, s.1) }

pub returns-then-not-read_both-clause-tells : goal.returns-then-not-read_both-clause-tells
unfolding answer_of number
returns-then-not-read_both-clause-tells c =
    refused_5 _ _ _ _ _ c.too_short.ensures c.if-too_short.false c.size_refusal.ensures c.in_ok-size_refusal.was c.read_both.ensures.reads c.if-not-read_both.true

pub judge_claims-requires : goal.judge_claims-requires
judge_claims-requires c =
    let l = c.read_both.ensures.long in
    let s = long_enough _ _ _ _ _ c.too_short.ensures c.if-too_short.false in
    let f = fits (claimed c.args.claims.now) _ _ _ _ c.too_short.ensures c.if-too_short.false c.size_refusal.ensures c.in_ok-size_refusal.was in
    (f.pairs, old_telling (claimed c.args.claims.now) _ _ _ _ c.too_short.ensures c.if-too_short.false c.size_refusal.ensures c.in_ok-size_refusal.was c.read_both.ensures.reads c.if-not-read_both.false (omega (arith, l.before, s.0)), new_telling (claimed c.args.claims.now) _ _ _ _ c.too_short.ensures c.if-too_short.false c.size_refusal.ensures c.in_ok-size_refusal.was c.read_both.ensures.reads c.if-not-read_both.false (omega (arith, l.after, s.1)), omega (arith, l.partners, s.2), omega (arith, l.marks, s.3))

pub returns-clause-tells : goal.returns-clause-tells
returns-clause-tells c =
    let l = c.read_both.ensures.long in
    let s = long_enough _ _ _ _ _ c.too_short.ensures c.if-too_short.false in
    all_judged _ _ _ _ _ c.too_short.ensures c.if-too_short.false c.size_refusal.ensures c.in_ok-size_refusal.was c.read_both.ensures.reads c.if-not-read_both.false (omega (arith, l.partners, s.2)) (omega (arith, l.marks, s.3)) c.judge_claims.ensures.judges
