-- `upmap_element` meets its contract. At the loop's head the rest of the definition's moves stands before it, with as many left.
use borrow.Author.Rules.{rules}
use Rattle.std.proofs.lemmas.Result.{err_from_is_err_and}
use Rattle.plan_upmap.proofs.Notes.{settling_start, settling_done, settling_10, settling_refused, settling_next}
use Rattle.plan_upmap.specs.Answers.{within_at}
use Rattle.plan_upmap.proofs.upmap_element.Goals as goal

pub loop-a-init : goal.loop-a-init
loop-a-init c = search (settling_start, rules)

pub returns-in_default : goal.returns-in_default
returns-in_default c = search (settling_done, rules)

pub returns-then-left-eq0 : goal.returns-then-left-eq0
returns-then-left-eq0 c = search (settling_10, rules)

pub upmap_from-requires : goal.upmap_from-requires
upmap_from-requires c = (within_at _ _ _ c.nearest_mapped.ensures.within c.in-Some.is, search rules)

pub returns-in_err-at : goal.returns-in_err-at
returns-in_err-at c =
    let p = err_from_is_err_and c.from_residual.result c.from_residual.ensures.1 in
    rw (p.1, p.2) (settling_refused _ _ _ _ _ _ _ c.loop-a.invariant _ c.nearest_mapped.ensures _ c.in-Some.is c.if-left-eq0.false _ c.upmap_from.ensures _ c.in_err-at.was)

pub loop-a-preserved : goal.loop-a-preserved
loop-a-preserved c = settling_next _ _ _ _ _ _ _ c.loop-a.invariant _ c.nearest_mapped.ensures _ c.in-Some.is c.if-left-eq0.false _ c.upmap_from.ensures _ c.in_ok-at.was
