-- `write_element` meets its contract.
use Rattle.finish_arrays.proofs.Turns.{element_written}
use borrow.Author.Rules.{rules}
use Rattle.finish_arrays.proofs.write_element.Goals as goal

pub returns : goal.returns
returns c = search (element_written, rules)
