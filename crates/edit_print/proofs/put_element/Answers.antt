-- `put_element` meets its contract.
use borrow.Author.Rules.{rules}
use Rattle.edit_print.proofs.Turns.{node_put, token_put}
use Rattle.edit_print.proofs.put_element.Goals as goal

pub returns-then-kind-lt-NODE_KIND : goal.returns-then-kind-lt-NODE_KIND
returns-then-kind-lt-NODE_KIND c = search (token_put, rules)

pub returns : goal.returns
returns c = search (node_put, rules)
