-- `rewrite_dependents` meets its contract. At the loop's head the rows from there on are rewritten.
use borrow.Author.Rules.{rules}
use native.Mathlib.Omega.{arith}
use Rattle.std.proofs.lemmas.Result.{err_from_is_err_and}
use Rattle.record_rewritten.specs.Stated.{fated_row}
use Rattle.plan_rewrite.proofs.Rows.{few_steps, rewriting_start, rewriting_done, rewriting_next, rewriting_refused}
use Rattle.plan_rewrite.proofs.rewrite_dependents.Goals as goal

pub loop-i-init : goal.loop-i-init
loop-i-init c = rewriting_start _ _ _ _ _ _ _ _ c.requires.places

pub rewrite_row-requires : goal.rewrite_row-requires
rewrite_row-requires c = record { places = omega (arith, c.loop-i.invariant.inside, c.loop-i.invariant.long); fated = fated_row _ _ _ _ _ c.requires.rewritable (omega (arith, c.loop-i.invariant.inside)) }

pub returns-in_err-steps : goal.returns-in_err-steps
returns-in_err-steps c =
    let p = err_from_is_err_and c.from_residual.result c.from_residual.ensures.1 in
    rw (p.1, p.2) (rewriting_refused _ _ _ _ _ _ _ c.requires.rewritable _ _ _ c.loop-i.invariant (search rules) _ _ c.rewrite_row.ensures _ c.in_err-steps.was)

pub overflow_add-steps : goal.overflow_add-steps
overflow_add-steps c = omega (arith, few_steps c.rewrite_row.ensures c.in_ok-steps.was, c.loop-i.invariant.few, c.requires.rewritable.few)

pub loop-i-preserved : goal.loop-i-preserved
loop-i-preserved c = rewriting_next _ _ _ _ _ _ _ c.requires.rewritable _ _ _ c.loop-i.invariant (search rules) _ _ c.rewrite_row.ensures _ c.in_ok-steps.was c.rewrite_row.auto.out

pub returns : goal.returns
returns c = search (rewriting_done, rules)
