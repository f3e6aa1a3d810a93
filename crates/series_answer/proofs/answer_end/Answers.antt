-- `answer_end` meets its contract.
use Rattle.std.proofs.lemmas.List.{take_rest}
use mathlib.Core.List.{[]}
use native.Mathlib.Omega.{arith}
use Rattle.std.proofs.lemmas.Result.{err_from_is_err_and}
use Rattle.finish_result.specs.Cut.{cut_few, cut_answered}
use Rattle.series_answer.specs.Ends.{ends_full, ends_leaving, ends_short, ends_written}
use Rattle.series_answer.proofs.answer_end.Goals as goal

pub invariant_of-new : goal.invariant_of-new
invariant_of-new c = let A = c.requires.ends.ends in record { long = A.rows_within; few = omega (arith, A.few_rows) }

pub lacks_room-requires : goal.lacks_room-requires
lacks_room-requires c = let A = c.requires.ends.ends in (A.some_rows, A.few_bytes _)

pub returns-then-lacks_room : goal.returns-then-lacks_room
returns-then-lacks_room c = ends_full c.requires _ (take_rest c.args.batch.now c.args.d.text) c.lacks_room.ensures c.if-lacks_room.true _

pub invariant_of-left : goal.invariant_of-left
invariant_of-left c = let A = c.requires.ends.ends in record { some = A.some_rows; light = A.few_bytes [] }

pub invariant_of-tally : goal.invariant_of-tally
invariant_of-tally c = let A = c.requires.ends.ends in record { few_discarded = A.few_discarded; few_climbs = A.few_climbs }

pub finish-requires : goal.finish-requires
finish-requires c = let v = c.requires in let A = v.ends.ends in record { rows_in_bounds = omega (arith, A.few_rows, v.room); few = cut_few _ _ _ _ A.notes_within A.changed_within A.few_notes A.few_changed }

pub returns-in_err-n : goal.returns-in_err-n
returns-in_err-n c =
    let p = err_from_is_err_and c.from_residual.result c.from_residual.ensures.1 in
    rw (p.1, p.2) (ends_short c.requires _ (take_rest c.args.batch.now c.args.d.text) c.lacks_room.ensures c.if-lacks_room.false _ (let A = c.requires.ends.ends in cut_answered _ _ _ _ A.notes_within A.changed_within _ _ _ _ _ c.finish.ensures) _ c.in_err-n.was)

pub invariant_of-run : goal.invariant_of-run
invariant_of-run c = let T = c.requires.ends.tells in record { long = omega (arith, T.formed.long); few = omega (arith, T.formed.lines.few) }

pub leave-requires : goal.leave-requires
leave-requires c = record { leaving = ends_leaving c.requires _ (take_rest c.args.batch.now c.args.d.text) c.lacks_room.ensures c.if-lacks_room.false; spare_in_bounds = omega (arith, c.finish.auto.starts, c.requires.room, c.requires.ends.tells.formed.lines.few, c.requires.ends.ends.few_rows) }

pub returns : goal.returns
returns c = ends_written c.requires _ (take_rest c.args.batch.now c.args.d.text) c.lacks_room.ensures c.if-lacks_room.false _ (let A = c.requires.ends.ends in cut_answered _ _ _ _ A.notes_within A.changed_within _ _ _ _ _ c.finish.ensures) _ c.in_ok-n.was c.leave.ensures
