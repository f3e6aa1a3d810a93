-- `rewrite_dependent_target` meets its contract. One law for each answer.
use Rattle.std.proofs.lemmas.Result.{err_from_is_err_and}
use Rattle.plan_rewrite.proofs.Rows.{dependent_refused, new_ends, dependent_written}
use Rattle.plan_rewrite.proofs.rewrite_dependent_target.Goals as goal

pub write_judged-requires : goal.write_judged-requires
write_judged-requires c = let e = new_ends _ _ _ _ _ _ _ c.requires.dependent _ c.upmap_dependent.ensures _ c.in_ok-ends.was in record { places = (c.requires.places.0, c.requires.places.2, e.0); new_ends = e.1 }

pub returns-in_err-ends : goal.returns-in_err-ends
returns-in_err-ends c =
    let p = err_from_is_err_and c.from_residual.result c.from_residual.ensures.1 in
    rw (p.1, p.2) (dependent_refused _ _ _ _ _ _ _ c.requires.dependent _ c.upmap_dependent.ensures _ _ _ c.in_err-ends.was)

pub returns : goal.returns
returns c = dependent_written _ _ _ _ _ _ _ c.requires.dependent _ c.upmap_dependent.ensures _ c.in_ok-ends.was _ _ _ _ c.write_judged.ensures
