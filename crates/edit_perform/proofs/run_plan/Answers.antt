-- `run_plan` meets its contract: what the run asks for is there, and what it answers is the definition's.
use mathlib.Core.Path.{sym, ◌∙◌}
use native.Mathlib.Omega.{arith}
use lib.Seq.{length-take-le}
use Rattle.std.proofs.lemmas.Result.{err_from_is_err_and}
use Rattle.edit_perform.proofs.Stages.{list_within, runs_within, may_begin, may_state, may_list, may_run, may_record, steps_refused, steps_ended}
use Rattle.edit_perform.proofs.run_plan.Goals as goal

pub overflow_mul-settled : goal.overflow_mul-settled
overflow_mul-settled c = let v = c.requires in omega (arith, v.laid_out.leaves.within.limits.notes)

pub overflow_mul-end : goal.overflow_mul-end
overflow_mul-end c = let v = c.requires in omega (arith, v.laid_out.leaves.within.limits.listed)

pub overflow_add-end : goal.overflow_add-end
overflow_add-end c = let v = c.requires in let y = c.args.accepted.now.batch in let q = list_within v.laid_out v.planning _ (v.marks_len.0 ∙ c.args.accepted.now.counted) in omega (arith, c.well_formed)

pub slice_bounds-task-count : goal.slice_bounds-task-count
slice_bounds-task-count c = omega arith

pub slice_bounds-task-start : goal.slice_bounds-task-start
slice_bounds-task-start c = omega arith

pub slice_bounds-task-end-2 : goal.slice_bounds-task-end-2
slice_bounds-task-end-2 c = let v = c.requires in list_within v.laid_out v.planning _ (v.marks_len.0 ∙ c.args.accepted.now.counted)

pub invariant_of-task : goal.invariant_of-task
invariant_of-task c = let v = c.requires in record { few = (may_list v.laid_out v.planning _ (v.marks_len.0 ∙ c.args.accepted.now.counted)).0 }

pub slice_bounds-execute-end-2 : goal.slice_bounds-execute-end-2
slice_bounds-execute-end-2 c = let v = c.requires in sym (length-take-le _ _ (runs_within v.laid_out v.planning _ (v.marks_len.0 ∙ c.args.accepted.now.counted) v.in_bounds.1))

pub execute-requires : goal.execute-requires
execute-requires c = let v = c.requires in let r = v.in_bounds in let w = v.marks_len in record { begun = may_begin v.laid_out v.planning _ (v.marks_len.0 ∙ c.args.accepted.now.counted) r.0 r.2; text_length = may_state v.laid_out v.planning _ (v.marks_len.0 ∙ c.args.accepted.now.counted); in_bounds = (w.4, w.1, w.5, omega arith, w.2); listed_low = (may_list v.laid_out v.planning _ (v.marks_len.0 ∙ c.args.accepted.now.counted)).1; all = may_run v.laid_out v.planning _ (v.marks_len.0 ∙ c.args.accepted.now.counted); running_in_bounds = may_record v.laid_out v.planning _ (v.marks_len.0 ∙ c.args.accepted.now.counted) _ w.3 }

pub returns-in_err-t : goal.returns-in_err-t
returns-in_err-t c =
    let p = err_from_is_err_and c.from_residual.result c.from_residual.ensures.1 in
    let v = c.requires in rw (p.1, p.2) (steps_refused v.laid_out v.planning _ (v.marks_len.0 ∙ c.args.accepted.now.counted) v.in_bounds.0 v.in_bounds.2 c.execute.ensures _ c.in_err-t.was)

pub returns : goal.returns
returns c = let v = c.requires in steps_ended v.laid_out v.planning _ (v.marks_len.0 ∙ c.args.accepted.now.counted) v.in_bounds.0 v.in_bounds.2 c.execute.ensures _ c.in_ok-t.was (omega (arith, c.execute.auto.notes, v.marks_len.1))
