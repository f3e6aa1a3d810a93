-- `prepared_rows` meets its contract: by its mark, or at first.
use borrow.Author.Rules.{rules}
use native.Mathlib.Omega.{arith}
use Rattle.run_tree_store.proofs.Turns.{row_low, prepared_first, prepared_now}
use Rattle.run_tree_store.proofs.prepared_rows.Goals as goal

pub returns-in_default : goal.returns-in_default
returns-in_default c = search (prepared_first, rules)

pub subtree-requires-2 : goal.subtree-requires-2
subtree-requires-2 c = omega (arith, row_low _ _ _ _ c.args.trees.now.placed c.requires.0 c.row_of.ensures c.in-Some.is)

pub returns : goal.returns
returns c = prepared_now _ _ _ _ _ _ c.requires _ c.row_of.ensures _ c.in-Some.is c.subtree-2.ensures
