-- `answer` meets its contract.
-- Assumes nothing.
use borrow.Author.Rules.{rules}
use Rattle.account_program.specs.Responds.{refused_responds, told_responds}
use Rattle.account_program.proofs.AccountingProgram655368192.answer.Goals as goal

pub print_refusal-requires : goal.print_refusal-requires
print_refusal-requires c = search rules

pub returns-in-Err : goal.returns-in-Err
returns-in-Err c = search (refused_responds, rules)

pub returns-in-Ok : goal.returns-in-Ok
returns-in-Ok c = search (told_responds, rules)
