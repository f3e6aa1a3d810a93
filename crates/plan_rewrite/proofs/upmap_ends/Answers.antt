-- `upmap_ends` meets its contract. One law for each answer.
use native.Mathlib.Omega.{arith}
use borrow.Author.Rules.{rules}
use Rattle.std.proofs.lemmas.Result.{err_from_is_err_and}
use Rattle.plan_rewrite.proofs.Ending.{moved_within, ends_refused, ends_one, ends_second_refused, ends_two}
use Rattle.plan_rewrite.proofs.upmap_ends.Goals as goal

pub returns-in_err-start : goal.returns-in_err-start
returns-in_err-start c =
    let p = err_from_is_err_and c.from_residual.result c.from_residual.ensures.1 in
    rw (p.1, p.2) (ends_refused _ _ _ _ _ _ _ _ _ _ c.upmap_child.ensures _ c.in_err-start.was)

pub returns-then-operation : goal.returns-then-operation
returns-then-operation c = ends_one _ _ _ _ _ _ _ _ _ _ c.upmap_child.ensures _ c.in_ok-start.was (search rules)

pub returns-in_err-last : goal.returns-in_err-last
returns-in_err-last c =
    let p = err_from_is_err_and c.from_residual-in_err-last.result c.from_residual-in_err-last.ensures.1 in
    rw (p.1, p.2) (ends_second_refused _ _ _ _ _ _ _ _ _ _ c.upmap_child.ensures _ c.in_ok-start.was (search rules) _ c.upmap_child-2.ensures _ c.in_err-last.was)

pub overflow_add-result : goal.overflow_add-result
overflow_add-result c = omega (arith, moved_within c.upmap_child.ensures.within c.in_ok-start.was, moved_within c.upmap_child-2.ensures.within c.in_ok-last.was, c.args.mapping.now.elements.formed.lines.few)

pub returns : goal.returns
returns c = ends_two _ _ _ _ _ _ _ _ _ _ c.upmap_child.ensures _ c.in_ok-start.was (search rules) _ c.upmap_child-2.ensures _ c.in_ok-last.was
