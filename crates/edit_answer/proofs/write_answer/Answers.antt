-- `write_answer` meets its contract: 13, or the bytes.
use Rattle.std.proofs.lemmas.List.{take_rest}
use native.Mathlib.Omega.{arith}
use Rattle.std.proofs.lemmas.Result.{err_from_is_err_and}
use Rattle.finish_result.specs.Cut.{cut_few}
use Rattle.edit_answer.proofs.Ends.{answered_13, answered_bytes}
use Rattle.edit_answer.proofs.write_answer.Goals as goal

pub finish-requires : goal.finish-requires
finish-requires c = let v = c.requires in let A = v.at_end in record { rows_in_bounds = omega (arith, A.few_rows, v.in_bounds); few = cut_few _ _ _ _ A.notes_within A.changed_within A.few_notes A.few_changed }

pub returns-in_err-n : goal.returns-in_err-n
returns-in_err-n c =
    let p = err_from_is_err_and c.from_residual.result c.from_residual.ensures.1 in
    let v = c.requires in rw (p.1, p.2) (answered_13 v.at_end _ _ _ _ (take_rest c.args.batch.now c.args.d.text) c.finish.ensures _ c.in_err-n.was)

pub returns : goal.returns
returns c = let v = c.requires in answered_bytes v.at_end _ _ _ _ (take_rest c.args.batch.now c.args.d.text) c.finish.ensures _ c.in_ok-n.was
