-- `answer` meets its contract.
-- Assumes nothing.
use Rattle.check_program.specs.Responds.{responds}
use borrow.Author.Rules.{rules}
use Rattle.check_program.proofs.CheckingProgram26214432.answer.Goals as goal

pub returns : goal.returns
returns c = search (responds, rules)
