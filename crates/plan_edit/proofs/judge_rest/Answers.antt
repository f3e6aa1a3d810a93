-- `judge_rest` meets its contract. One law for two changes that overlap, one for fates.
use Rattle.std.proofs.Common.{rules, tests}
use Rattle.std.proofs.lemmas.Result.{err_from_is_err_and}
use mathlib.Core.Path.{sym}
use lib.Seq.{length-take-le}
use Rattle.plan_edit.proofs.Judging.{rows_told, rows_fated}
use Rattle.plan_edit.proofs.judge_rest.Goals as goal

pub slice_bounds-told-end : goal.slice_bounds-told-end
slice_bounds-told-end c = sym (length-take-le _ _ c.requires.2)

pub returns-in_err-map_err : goal.returns-in_err-map_err
returns-in_err-map_err c =
    let p = err_from_is_err_and c.from_residual.result c.from_residual.ensures.1 in
    rw (p.1, p.2) (rows_told c.replacements_are_disjoint.ensures c.map_err.ensures.cases (λ d o q. (search (rules, tests), search (rules, tests))) _ c.in_err-map_err.was)

pub returns : goal.returns
returns c = rows_fated c.replacements_are_disjoint.ensures c.map_err.ensures.variant c.in_ok-map_err.was c.state_fates.ensures
