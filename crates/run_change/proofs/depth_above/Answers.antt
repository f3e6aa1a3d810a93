-- `depth_above` meets its contract.
use native.Mathlib.Omega.{arith}
use borrow.Author.Rules.{rules}
use Rattle.run_change.proofs.Telling.{above_first, above_other, some_depth, target_line}
use Rattle.run_change.proofs.depth_above.Goals as goal

pub entry-depth-requires : goal.entry-depth-requires
entry-depth-requires c = let q = target_line c.args.changes.now c.args.k (c.requires.1, c.requires.2, c.requires.3) c.field-x.ensures in search rules

pub returns-then-field : goal.returns-then-field
returns-then-field c = above_first c.args.changes.now c.args.k (c.requires.1, c.requires.2, c.requires.3) c.field-x.ensures c.entry-depth.ensures c.field.ensures c.if-field.true

pub overflow_sub-result : goal.overflow_sub-result
overflow_sub-result c = let q = some_depth c.args.changes.now c.args.k (c.requires.1, c.requires.2, c.requires.3) c.field-x.ensures c.entry-depth.ensures in omega arith

pub returns : goal.returns
returns c = above_other c.args.changes.now c.args.k (c.requires.1, c.requires.2, c.requires.3) c.field-x.ensures c.entry-depth.ensures c.field.ensures c.if-field.false
