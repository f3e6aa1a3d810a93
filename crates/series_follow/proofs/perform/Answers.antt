-- `perform` meets its contract.
use mathlib.Core.Path.{ap}
use Rattle.refusals.specs.Numbers.{answered}
use native.Mathlib.Omega.{arith}
use Rattle.std.proofs.lemmas.Result.{err_from_is_err_and}
use Rattle.promises.specs.Slices.{long_enough}
use Rattle.edit_perform.proofs.Stages.{early_passed}
use Rattle.series_laws.specs.Memory.{most_later}
use Rattle.series_tree.specs.Accepted.{lent_within}
use Rattle.series_follow.specs.Performing.{before_first, before_judged, before_passes, performs_early, performs_unaccepted, performs_on}
use Rattle.series_follow.proofs.perform.Goals as goal

pub returns-in_err-refused_first-clause-performs : goal.returns-in_err-refused_first-clause-performs
unfolding answered
returns-in_err-refused_first-clause-performs c =
    let p = err_from_is_err_and c.from_residual.result c.from_residual.ensures.1 in
    rw (p.1, p.2) (performs_early (before_first _ _ _ c.refused_first.ensures _ (ap answered c.in_err-refused_first.was)) _ (ap answered c.in_err-refused_first.was))

pub judge-requires : goal.judge-requires
judge-requires c = let v = long_enough _ _ _ _ _ _ _ _ _ (early_passed _ _ c.refused_first.ensures c.in_ok-refused_first.was).1 in (omega arith, omega (arith, v.1.4), omega (arith, v.1.5))

pub returns-in_err-judge-clause-performs : goal.returns-in_err-judge-clause-performs
unfolding answered
returns-in_err-judge-clause-performs c =
    let p = err_from_is_err_and c.from_residual-in_err-judge.result c.from_residual-in_err-judge.ensures.1 in
    rw (p.1, p.2) (performs_early (before_judged _ _ _ c.refused_first.ensures (ap answered c.in_ok-refused_first.was) c.judge.ensures) _ (ap answered c.in_err-judge.was))

pub accept_same-requires : goal.accept_same-requires
accept_same-requires c = let v = long_enough _ _ _ _ _ _ _ _ _ (early_passed _ _ c.refused_first.ensures c.in_ok-refused_first.was).1 in (v.0.0, v.0.1)

pub invariant_of-lent : goal.invariant_of-lent
unfolding answered
invariant_of-lent c =
    let P = before_passes _ _ _ (before_judged _ _ _ c.refused_first.ensures (ap answered c.in_ok-refused_first.was) c.judge.ensures) (ap answered c.in_ok-judge.was) in
    let w = lent_within most_later _ _ P.lent in
    record { sizes = w.0; whole = w.1 }

pub invariant_of-accepted : goal.invariant_of-accepted
invariant_of-accepted c = record { within = (c.accept_same.ensures.left _ c.in_ok-layout.was).leaves.within }

pub invariant_of-accepted-2 : goal.invariant_of-accepted-2
invariant_of-accepted-2 c = record { formed = (c.accept_same.ensures.left _ c.in_ok-layout.was).leaves.formed }

pub plan_and_run-requires-clause-laid_out : goal.plan_and_run-requires-clause-laid_out
plan_and_run-requires-clause-laid_out c = c.accept_same.ensures.left _ c.in_ok-layout.was

pub plan_and_run-requires-clause-in_bounds : goal.plan_and_run-requires-clause-in_bounds
plan_and_run-requires-clause-in_bounds c = let v = long_enough _ _ _ _ _ _ _ _ _ (early_passed _ _ c.refused_first.ensures c.in_ok-refused_first.was).1 in (omega (arith, c.accept_same.auto.source, v.0.1), v.0.2)

pub plan_and_run-requires-clause-in_bounds_2 : goal.plan_and_run-requires-clause-in_bounds_2
plan_and_run-requires-clause-in_bounds_2 c = let v = long_enough _ _ _ _ _ _ _ _ _ (early_passed _ _ c.refused_first.ensures c.in_ok-refused_first.was).1 in (v.1.0, v.1.1, v.1.2, v.1.3, omega (arith, c.judge.auto.rows, v.1.4), omega (arith, c.judge.auto.spare, v.1.5))

pub returns-in_err-layout-clause-performs : goal.returns-in_err-layout-clause-performs
unfolding answered
returns-in_err-layout-clause-performs c =
    let p = err_from_is_err_and c.from_residual-in_err-layout.result c.from_residual-in_err-layout.ensures.1 in
    let P = before_passes _ _ _ (before_judged _ _ _ c.refused_first.ensures (ap answered c.in_ok-refused_first.was) c.judge.ensures) (ap answered c.in_ok-judge.was) in
    rw (p.1, p.2) (performs_unaccepted P _ _ (c.accept_same.ensures.refuses _ c.in_err-layout.was))

pub returns-clause-performs : goal.returns-clause-performs
unfolding answered
returns-clause-performs c =
    let P = before_passes _ _ _ (before_judged _ _ _ c.refused_first.ensures (ap answered c.in_ok-refused_first.was) c.judge.ensures) (ap answered c.in_ok-judge.was) in
    performs_on P _ (c.accept_same.ensures.left _ c.in_ok-layout.was) (c.accept_same.ensures.same _ c.in_ok-layout.was) _ c.plan_and_run.ensures
