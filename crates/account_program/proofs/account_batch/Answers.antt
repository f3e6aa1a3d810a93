-- `account_batch` meets its contract.
-- Assumes nothing.
use borrow.Author.Rules.{rules}
use Rattle.promises.specs.Slices.{needed, filled, filled_suffice}
use Rattle.account_program.specs.Responds.{account_tells}
use Rattle.account_program.proofs.account_batch.Goals as goal

pub returns : goal.returns
unfolding needed filled
returns c = account_tells c.account.ensures.accounts c.requires.1 (search rules) (filled_suffice 0)
