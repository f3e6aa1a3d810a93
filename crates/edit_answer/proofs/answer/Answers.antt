-- `answer` meets its contract: the refusal, or what the job answers.
use Rattle.edit_answer.specs.AtEnd.{rows_at_end, old_rows}
use Rattle.edit_answer.proofs.Ends.{tells_refused, tells_done, tells_found, tells_share, tells_overlap}
use Rattle.edit_answer.proofs.answer.Goals as goal

pub write_answer-requires : goal.write_answer-requires
write_answer-requires c = let e = c.in-Ok.is in let v = c.requires in record { at_end = v.ends _ e; in_bounds = v.room _ e }

pub find_from-requires : goal.find_from-requires
find_from-requires c = let e = c.in-Ok.is in let v = c.requires in record { rows_at_end = rows_at_end (v.ends _ e); told = v.tells _ e }

pub account_from-requires : goal.account_from-requires
account_from-requires c = let e = c.in-Ok.is in let v = c.requires in (v.ends _ e, v.recounts _ e)

pub share_from-requires : goal.share_from-requires
share_from-requires c = c.requires.ends _ c.in-Ok.is

pub kept_from-requires : goal.kept_from-requires
kept_from-requires c = let e = c.in-Ok.is in let v = c.requires in record { old = old_rows (v.tells _ e); marked = v.marked _ e; ended = rows_at_end (v.ends _ e) }

pub returns-in-Refused : goal.returns-in-Refused
returns-in-Refused c = tells_refused c.in-Err.is c.in-Refused.is _ _

pub returns-in-Overlap : goal.returns-in-Overlap
returns-in-Overlap c = tells_overlap _ c.requires c.in-Err.is c.in-Overlap.is c.overlapping.ensures

pub returns-in-Edit : goal.returns-in-Edit
returns-in-Edit c = rw c.in-Edit.is (tells_done c.in-Ok.is _ c.write_answer.ensures)

pub returns-in-Find : goal.returns-in-Find
returns-in-Find c = rw c.in-Find.is (tells_done c.in-Ok.is _ (tells_found _ _ _ _ _ c.find_from.ensures))

pub returns-in-Account : goal.returns-in-Account
returns-in-Account c = rw c.in-Account.is (tells_done c.in-Ok.is _ c.account_from.ensures)

pub returns-in-Share : goal.returns-in-Share
returns-in-Share c = rw c.in-Share.is (tells_done c.in-Ok.is _ (tells_share _ _ _ _ c.share_from.ensures))

pub returns-in-Kept : goal.returns-in-Kept
returns-in-Kept c = rw c.in-Kept.is (tells_done c.in-Ok.is _ c.kept_from.ensures)
