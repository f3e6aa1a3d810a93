-- `positive` meets its contract.
use borrow.Author.Rules.{rules}
use Rattle.edit_numbers.specs.Negated.{reads_pos}
use Rattle.edit_numbers.proofs.positive.Goals as goal

pub returns : goal.returns
returns c = search (reads_pos, rules)
