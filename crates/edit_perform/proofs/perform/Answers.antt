-- `perform` meets its contract: 17, 18, 1, 2 to 7 with 16, or the plan and its run.
use mathlib.Core.Path.{refl}
use native.Mathlib.Omega.{arith}
use Rattle.std.proofs.lemmas.Result.{err_from_is_err_and}
use Rattle.promises.specs.Slices.{long_enough}
use Rattle.edit_perform.specs.AtEnd.{early, long}
use Rattle.edit_perform.specs.Beginning.{judged_laid}
use Rattle.edit_perform.proofs.Stages.{judged_stops, early_refused, early_passed}
use Rattle.edit_perform.proofs.perform.Goals as goal

pub returns-in_err-refused_first-clause-performs : goal.returns-in_err-refused_first-clause-performs
returns-in_err-refused_first-clause-performs c =
    let p = err_from_is_err_and c.from_residual.result c.from_residual.ensures.1 in
    rw (p.1, p.2) (early _ (early_refused _ _ c.refused_first.ensures _ c.in_err-refused_first.was) refl)

pub accept-requires : goal.accept-requires
accept-requires c = let v = long_enough _ _ _ _ _ _ _ _ _ (early_passed _ _ c.refused_first.ensures c.in_ok-refused_first.was).1 in (v.0.0, v.0.1)

pub invariant_of-accepted : goal.invariant_of-accepted
invariant_of-accepted c = record { within = (c.accept.ensures.left _ c.in_ok-layout.was).within }

pub invariant_of-accepted-2 : goal.invariant_of-accepted-2
invariant_of-accepted-2 c = record { formed = (c.accept.ensures.left _ c.in_ok-layout.was).formed }

pub plan_and_run-requires-clause-laid_out : goal.plan_and_run-requires-clause-laid_out
plan_and_run-requires-clause-laid_out c =
    let r = (long_enough _ _ _ _ _ _ _ _ _ (early_passed _ _ c.refused_first.ensures c.in_ok-refused_first.was).1).0 in
    judged_laid c.accept.ensures _ c.in_ok-layout.was r.0 r.1

pub plan_and_run-requires-clause-in_bounds : goal.plan_and_run-requires-clause-in_bounds
plan_and_run-requires-clause-in_bounds c =
    let r = (long_enough _ _ _ _ _ _ _ _ _ (early_passed _ _ c.refused_first.ensures c.in_ok-refused_first.was).1).0 in
    (omega (arith, c.accept.auto.source, r.1), r.2)

pub plan_and_run-requires-clause-in_bounds_2 : goal.plan_and_run-requires-clause-in_bounds_2
plan_and_run-requires-clause-in_bounds_2 c = (long_enough _ _ _ _ _ _ _ _ _ (early_passed _ _ c.refused_first.ensures c.in_ok-refused_first.was).1).1

pub returns-in_err-layout-clause-performs : goal.returns-in_err-layout-clause-performs
returns-in_err-layout-clause-performs c =
    let w = early_passed _ _ c.refused_first.ensures c.in_ok-refused_first.was in
    let p = err_from_is_err_and c.from_residual-in_err-layout.result c.from_residual-in_err-layout.ensures.1 in
    rw (p.1, p.2) (long w.0 w.1 (judged_stops c.accept.ensures _ c.in_err-layout.was))

pub returns-clause-performs : goal.returns-clause-performs
returns-clause-performs c = let w = early_passed _ _ c.refused_first.ensures c.in_ok-refused_first.was in long w.0 w.1 c.plan_and_run.ensures
