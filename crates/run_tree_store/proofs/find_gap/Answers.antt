-- `find_gap` meets its contract. One law for each operation.
use borrow.Author.Rules.{rules}
use native.Mathlib.Omega.{arith}
use Rattle.run_tree_store.proofs.Turns.{row_low, site_replaced, site_gone, site_first, site_after, site_run, site_one}
use Rattle.run_tree_store.proofs.find_gap.Goals as goal

pub returns-then-operation : goal.returns-then-operation
returns-then-operation c = search (site_replaced, rules)

pub returns-in_err-m : goal.returns-in_err-m
returns-in_err-m c = search (site_gone, rules)

pub returns-then-operation-2 : goal.returns-then-operation-2
returns-then-operation-2 c = search (site_first, rules)

pub gap_after-requires : goal.gap_after-requires
gap_after-requires c = (omega (arith, row_low _ _ _ _ c.args.store.now.placed c.requires.0 c.row_of.ensures c.in_ok-m.was), c.requires.0)

pub returns-then-operation-3 : goal.returns-then-operation-3
returns-then-operation-3 c = site_after _ _ _ _ _ _ _ _ c.if-operation.false _ c.row_of.ensures c.in_ok-m.was _ c.if-operation-3.true c.gap_after.ensures

pub returns-then-operation-4 : goal.returns-then-operation-4
returns-then-operation-4 c = site_run _ _ _ _ _ _ _ _ c.if-operation.false _ c.row_of.ensures c.in_ok-m.was _ c.if-operation-4.true c.run_site.ensures

pub gap_of-requires : goal.gap_of-requires
gap_of-requires c = (omega (arith, row_low _ _ _ _ c.args.store.now.placed c.requires.0 c.row_of.ensures c.in_ok-m.was), c.requires.0)

pub returns : goal.returns
returns c = site_one _ _ _ _ _ _ _ _ c.if-operation.false _ c.row_of.ensures c.in_ok-m.was _ c.if-operation-2.false c.if-operation-3.false c.if-operation-4.false c.gap_of.ensures
