-- `put_withdrawn` meets its contract.
use borrow.Author.Rules.{rules}
use Rattle.account_lines.proofs.Turns.{withdrawn_put}
use Rattle.account_lines.proofs.put_withdrawn.Goals as goal

pub returns : goal.returns
returns c = search (withdrawn_put, rules)
