-- `put_number` meets its contract.
use borrow.Author.Rules.{rules}
use Rattle.edit_print.proofs.Turns.{number_put}
use Rattle.edit_print.proofs.put_number.Goals as goal

pub returns : goal.returns
returns c = search (number_put, rules)
