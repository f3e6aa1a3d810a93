-- `hand_out` meets its contract.
use Rattle.account_lines.proofs.Turns.{draft_13, draft_given}
use borrow.Author.Rules.{rules}
use Rattle.account_lines.proofs.hand_out.Goals as goal

pub returns-then-res-n : goal.returns-then-res-n
returns-then-res-n c = search (draft_13, rules)

pub returns : goal.returns
returns c = search (draft_given, rules)
