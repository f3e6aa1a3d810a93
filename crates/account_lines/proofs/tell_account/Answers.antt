-- `tell_account` meets its contract.
use borrow.Author.Rules.{rules}
use Rattle.account_lines.proofs.Turns.{text_handed}
use Rattle.account_lines.proofs.tell_account.Goals as goal

pub returns : goal.returns
returns c = search (text_handed, rules)
