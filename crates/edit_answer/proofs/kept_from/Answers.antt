-- `kept_from` meets its contract: the pairs of what the run leaves are the batch's.
use borrow.Author.Rules.{rules}
use Rattle.edit_answer.proofs.Ends.{kept_answers}
use Rattle.edit_answer.proofs.kept_from.Goals as goal

pub returns : goal.returns
returns c = search (kept_answers, rules)
