-- `answer` meets its contract: what is shown is told of the batch.
-- Assumes nothing.
use Rattle.edit_program.specs.Responds.{responds}
use borrow.Author.Rules.{rules}
use Rattle.edit_program.proofs.EditingProgram65536190000.answer.Goals as goal

pub show-requires : goal.show-requires
show-requires c = c.edit_batch-answer.ensures.showable _ (search rules)

pub returns : goal.returns
returns c = search (responds, rules)
