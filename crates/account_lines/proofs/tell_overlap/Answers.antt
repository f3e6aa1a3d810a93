-- `tell_overlap` meets its contract.
use Rattle.account_lines.proofs.Turns.{overlap_handed}
use borrow.Author.Rules.{rules}
use Rattle.account_lines.proofs.tell_overlap.Goals as goal

pub returns : goal.returns
returns c = search (overlap_handed, rules)
