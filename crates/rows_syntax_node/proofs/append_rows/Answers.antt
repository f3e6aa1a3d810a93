-- `append_rows` meets its contract.
use Rattle.rows_syntax_node.proofs.Turns.{appended}
use borrow.Author.Rules.{rules}
use Rattle.rows_syntax_node.proofs.append_rows.Goals as goal

pub returns : goal.returns
returns c = search (appended, rules)
