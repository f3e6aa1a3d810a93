-- `put_account` meets its contract.
use borrow.Author.Rules.{rules}
use Rattle.account_lines.proofs.Turns.{account_start, line_room, account_stays, account_leaves, account_done}
use Rattle.account_lines.proofs.put_account.Goals as goal

pub loop-i-init : goal.loop-i-init
loop-i-init c = search (account_start, rules)

pub put_withdrawn-to-requires : goal.put_withdrawn-to-requires
put_withdrawn-to-requires c = search (line_room, rules)

pub loop-i-preserved-in-Some : goal.loop-i-preserved-in-Some
loop-i-preserved-in-Some c = search (account_leaves, rules)

pub put_fate-to-requires : goal.put_fate-to-requires
put_fate-to-requires c = search (line_room, rules)

pub loop-i-preserved : goal.loop-i-preserved
loop-i-preserved c = search (account_stays, rules)

pub returns : goal.returns
returns c = search (account_done, rules)
