-- `print_refusal` meets its contract.
use borrow.Author.Rules.{rules}
use Rattle.edit_print.proofs.Turns.{refusal_put}
use Rattle.edit_print.proofs.print_refusal.Goals as goal

pub returns : goal.returns
returns c = search (refusal_put, rules)
