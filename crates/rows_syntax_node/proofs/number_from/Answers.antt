-- `number_from` meets its contract. The marks passed are numbered.
use borrow.Author.Rules.{rules}
use Rattle.rows_syntax_node.proofs.Turns.{numbering_done, numbering_next}
use Rattle.rows_syntax_node.proofs.number_from.Goals as goal

pub loop-i-preserved : goal.loop-i-preserved
loop-i-preserved c = search (numbering_next, rules)

pub returns : goal.returns
returns c = search (numbering_done, rules)
