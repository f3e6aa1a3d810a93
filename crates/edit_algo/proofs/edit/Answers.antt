-- `edit` meets its contract: it is one job of `serve`.
use Rattle.edit_algo.proofs.Ways.{edits_told, edit_length}
use Rattle.edit_algo.proofs.edit.Goals as goal

pub answer_in-requires : goal.answer_in-requires
answer_in-requires c = edit_length _ c.serve.ensures.serves

pub returns-clause-edits : goal.returns-clause-edits
returns-clause-edits c = edits_told _ _ _ _ _ _ _ _ c.serve.ensures.serves c.answer_in.ensures
