-- `overlapping` meets its contract: the pair is told, or 8.
use Rattle.edit_answer.proofs.Ends.{others_8, account_8}
use Rattle.edit_answer.proofs.overlapping.Goals as goal

pub returns-in-Account : goal.returns-in-Account
returns-in-Account c = account_8 _ _ c.in-Account.is c.tell_overlap.ensures

pub returns-in-Edit : goal.returns-in-Edit
returns-in-Edit c = others_8 _ _ _ c.in-Edit.is
