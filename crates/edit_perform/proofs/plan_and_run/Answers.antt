-- `plan_and_run` meets its contract: 8 to 10, or the run.
use native.Mathlib.Omega.{arith}
use lib.Seq.{length-take-le}
use Rattle.std.proofs.lemmas.Result.{err_from_is_err_and}
use Rattle.plan_model.specs.Ready.{leaves_ready}
use Rattle.edit_perform.proofs.Stages.{marks_behind, plan_stops, plan_made}
use Rattle.edit_perform.proofs.plan_and_run.Goals as goal

pub plan-requires : goal.plan-requires
plan-requires c = let v = c.requires in let r = v.in_bounds in let w = v.in_bounds_2 in record { ready = leaves_ready v.laid_out.leaves; in_bounds = (omega (arith, w.4), omega (arith, w.5), r.1, omega (arith, w.3), omega arith, w.0, omega arith) }

pub slice_bounds-run_plan-end : goal.slice_bounds-run_plan-end
slice_bounds-run_plan-end c = let v = c.requires in omega (arith, c.plan.auto.map, v.laid_out.leaves.within.limits.elements, c.args.accepted.now.counted, v.in_bounds_2.0)

pub run_plan-requires : goal.run_plan-requires
run_plan-requires c = let v = c.requires in let r = v.in_bounds in let w = v.in_bounds_2 in record { laid_out = v.laid_out; planning = plan_made c.plan.ensures _ c.in_ok-counts.was; in_bounds = (r.0, omega (arith, c.plan.auto.running), omega (arith, c.plan.auto.first)); marks_len = (length-take-le c.args.accepted.now.elements.count _ (omega (arith, c.plan.auto.map, v.laid_out.leaves.within.limits.elements, c.args.accepted.now.counted, w.0)), w.1, w.2, omega (arith, c.plan.auto.order, w.3), omega (arith, c.plan.auto.recorded, w.4), omega (arith, c.plan.auto.sorted, w.5)) }

pub returns-in_err-counts : goal.returns-in_err-counts
returns-in_err-counts c =
    let p = err_from_is_err_and c.from_residual.result c.from_residual.ensures.1 in
    rw (p.1, p.2) (plan_stops c.plan.ensures c.requires.laid_out _ c.in_err-counts.was)

pub returns : goal.returns
returns c = marks_behind _ c.run_plan.ensures
