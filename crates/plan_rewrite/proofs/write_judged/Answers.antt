-- `write_judged` meets its contract. One law for each answer.
use borrow.Author.Rules.{rules}
use native.Mathlib.Omega.{arith}
use Rattle.plan_rewrite.proofs.Writing.{call_known, row_written, row_refused}
use Rattle.plan_rewrite.proofs.write_judged.Goals as goal

pub call_fits-requires : goal.call_fits-requires
call_fits-requires c = omega (arith, c.requires.new_ends.end, call_known _ _ _ _ _ _ c.requires.new_ends _ _ c.field-operation.ensures.0 c.field-list.ensures.0 _ c.judged_by-z.ensures)

pub write_row-requires : goal.write_row-requires
write_row-requires c = (c.requires.new_ends.target, c.requires.new_ends.end, (call_known _ _ _ _ _ _ c.requires.new_ends _ _ c.field-operation.ensures.0 c.field-list.ensures.0 _ c.judged_by-z.ensures).2, search rules, search rules)

pub returns-then-call_fits : goal.returns-then-call_fits
returns-then-call_fits c = row_written _ _ _ _ _ _ c.requires.new_ends _ _ c.field-operation.ensures.0 c.field-list.ensures.0 _ c.judged_by-z.ensures _ _ _ _ _ c.call_fits.ensures c.if-call_fits.true _ c.write_row.ensures c.requires.places.1 c.requires.places.2 c.args.elements.now.formed

pub returns : goal.returns
returns c = row_refused _ _ _ _ _ _ c.requires.new_ends _ _ c.field-operation.ensures.0 c.field-list.ensures.0 _ c.judged_by-z.ensures _ _ _ _ _ c.call_fits.ensures c.if-call_fits.false
