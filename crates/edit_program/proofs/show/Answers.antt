-- `show` meets its contract: what is printed is told of the answer.
-- Assumes nothing.
use Rattle.edit_program.specs.Told.{refused_room, edited_printable, refused_told, edited_told}
use borrow.Author.Rules.{rules}
use Rattle.edit_program.proofs.show.Goals as goal

pub print_refusal-requires : goal.print_refusal-requires
print_refusal-requires c = search (refused_room, rules)

pub print_result-requires : goal.print_result-requires
print_result-requires c = search (edited_printable, rules)

pub returns-in-Err : goal.returns-in-Err
returns-in-Err c = search (refused_told, rules)

pub returns-in-Ok : goal.returns-in-Ok
returns-in-Ok c = search (edited_told, rules)
