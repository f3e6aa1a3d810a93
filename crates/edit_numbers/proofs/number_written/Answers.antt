-- `number_written` meets its contract: case by case.
use borrow.Author.Rules.{rules}
use Rattle.refusals.specs.Numbers.{answered}
use Rattle.edit_numbers.specs.ReturnedBatch.{Few, length_number}
use Rattle.edit_numbers.proofs.number_written.Goals as goal

pub negative-requires : goal.negative-requires
unfolding Few answered
negative-requires c = search rules

pub positive-requires : goal.positive-requires
unfolding Few answered
positive-requires c = search rules

pub returns-in-Err : goal.returns-in-Err
unfolding length_number answered
returns-in-Err c = search rules

pub returns-in-Ok : goal.returns-in-Ok
unfolding length_number answered
returns-in-Ok c = search rules
