-- `replaced_site` meets its contract: a root by counting, else by its mark.
use borrow.Author.Rules.{rules}
use native.Mathlib.Omega.{arith}
use Rattle.run_tree_store.proofs.Turns.{row_low, replaced_root, replaced_gone, replaced_there}
use Rattle.run_tree_store.proofs.replaced_site.Goals as goal

pub returns-then-is_root : goal.returns-then-is_root
returns-then-is_root c = search (replaced_root, rules)

pub returns-in_err-m : goal.returns-in_err-m
returns-in_err-m c = search (replaced_gone, rules)

pub gap_of-requires-2 : goal.gap_of-requires-2
gap_of-requires-2 c = (omega (arith, row_low _ _ _ _ c.args.store.now.placed c.requires c.row_of.ensures c.in_ok-m.was), c.requires)

pub returns : goal.returns
returns c = replaced_there _ _ _ _ _ _ _ c.args.store.now.lines c.requires c.is_root.ensures c.if-is_root.false _ c.row_of.ensures _ c.in_ok-m.was c.gap_of-2.ensures
