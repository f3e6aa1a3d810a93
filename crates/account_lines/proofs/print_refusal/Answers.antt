-- `print_refusal` meets its contract.
use Rattle.account_lines.proofs.Turns.{nothing_room, number_put}
use borrow.Author.Rules.{rules}
use Rattle.account_lines.proofs.print_refusal.Goals as goal

pub put_line-requires : goal.put_line-requires
put_line-requires c = search (nothing_room, rules)

pub returns : goal.returns
returns c = search (number_put, rules)
