-- `put_hex` meets its contract.
use borrow.Author.Rules.{rules}
use Rattle.edit_print.proofs.Turns.{hex_put}
use Rattle.edit_print.proofs.put_hex.Goals as goal

pub returns : goal.returns
returns c = search (hex_put, rules)
