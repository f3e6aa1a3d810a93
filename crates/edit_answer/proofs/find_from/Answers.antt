-- `find_from` meets its contract: no node of tree 0, or the first alike.
use native.Mathlib.Omega.{arith}
use borrow.Author.Rules.{rules}
use Rattle.edit_answer.specs.AtEnd.{trees_told}
use Rattle.edit_answer.proofs.Ends.{none_numbered, none_asked, asked_old, found_told}
use Rattle.edit_answer.proofs.find_from.Goals as goal

pub returns-then-n-k : goal.returns-then-n-k
returns-then-n-k c = search (none_numbered, rules)

pub returns-then-not-is_old_node : goal.returns-then-not-is_old_node
returns-then-not-is_old_node c = search (none_asked, rules)

pub old_start-start-requires : goal.old_start-start-requires
old_start-start-requires c = search (trees_told, asked_old, rules)

pub returns : goal.returns
returns c = found_told c.requires.rows_at_end c.requires.told _ _ c.is_old_node.ensures c.if-not-is_old_node.false (omega (arith, c.if-n-k.false)) _ _ c.row_word-kind.ensures.0 c.old_start-start.ensures _ c.find_in_tree.ensures
