-- `splice_rows` meets its contract.
use native.Mathlib.Omega.{arith}
use lib.ListN.{length-set}
use Rattle.rows_syntax_node.proofs.Turns.{rows_spliced}
use borrow.Author.Rules.{rules}
use Rattle.rows_syntax_node.proofs.splice_rows.Goals as goal

pub splice_words-requires : goal.splice_words-requires
splice_words-requires c = simp length-set (omega arith)

pub shape_of-rows : goal.shape_of-rows
shape_of-rows c = simp length-set at c.splice_words.auto.s

pub returns : goal.returns
returns c = search (rows_spliced, rules)
