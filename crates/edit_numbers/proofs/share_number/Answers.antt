-- `share_number` meets its contract.
use borrow.Author.Rules.{rules}
use Rattle.edit_numbers.specs.Told.{share_word}
use Rattle.edit_numbers.proofs.share_number.Goals as goal

pub returns : goal.returns
unfolding share_word
returns c = search rules
