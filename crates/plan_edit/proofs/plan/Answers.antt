-- `plan` meets its contract. One law for refusal 8, one for what the second stage refuses, one for what is kept of those withdrawn.
use borrow.Author.Rules.{rules}
use native.Mathlib.Omega.{arith}
use Rattle.std.proofs.lemmas.Result.{err_from_is_err_and}
use Rattle.plan_edit.proofs.Judging.{overlap_refused, judged_fates, kept_refused, plan_kept}
use Rattle.plan_edit.proofs.plan.Goals as goal

pub returns-in_err-fated : goal.returns-in_err-fated
returns-in_err-fated c =
    let p = err_from_is_err_and c.from_residual.result c.from_residual.ensures.1 in
    rw (p.1, p.2) (overlap_refused c.requires.ready _ _ c.judge_changes.ensures c.in_err-fated.was _ _ _)

pub rewrite_and_settle-requires : goal.rewrite_and_settle-requires
rewrite_and_settle-requires c =
    let p = c.requires in
    let J = judged_fates _ _ c.judge_changes.ensures c.in_ok-fated.was in record { ready = p.ready; changes_fated = J.0; in_bounds = (search rules, search rules, search rules, p.in_bounds.4, p.in_bounds.5, p.in_bounds.6) }

pub returns-in_err-counts : goal.returns-in_err-counts
returns-in_err-counts c =
    let p = err_from_is_err_and c.from_residual-in_err-counts.result c.from_residual-in_err-counts.ensures.1 in
    rw (p.1, p.2) (kept_refused _ c.in_err-counts.was c.rewrite_and_settle.ensures)

pub returns : goal.returns
returns c =
    let J = judged_fates _ _ c.judge_changes.ensures c.in_ok-fated.was in
    plan_kept _ _ _ (omega (arith, c.requires.in_bounds.2)) (search rules) c.copy_in.ensures J.1 _ c.in_ok-counts.was c.rewrite_and_settle.ensures
