-- `upmap_to_ancestor` meets its contract. At the loop's head the rest of the definition's climb stands before it, with as many steps left.
use borrow.Author.Rules.{rules}
use native.Mathlib.Omega.{arith}
use Rattle.std.specs.Prelude.{Some}
use mathlib.Core.Path.{◌≡◌, sym, ◌∙◌}
use Rattle.std.proofs.lemmas.Result.{err_from_is_err_and}
use Rattle.plan_mapping.proofs.Told.{names_none, names_some, nothing}
use Rattle.plan_mapping.proofs.Climbing.{climbing_same, climbing_start, climbing_9, climbing_10, climbing_done, climbing_next, parent_element}
use Rattle.plan_mapping.proofs.upmap_to_ancestor.Goals as goal

pub returns-then-input-output : goal.returns-then-input-output
returns-then-input-output c = search (climbing_same, rules)

pub loop-parent-init : goal.loop-parent-init
loop-parent-init c = climbing_start _ _ _ _ _ c.args.trail.now (search rules) _ c.if-input-output.false c.upmap_node_single-x.ensures.0 c.upmap_node_single-x.ensures.1 (search rules)

pub returns-in_err-parent : goal.returns-in_err-parent
returns-in_err-parent c =
    let p = err_from_is_err_and c.from_residual.result c.from_residual.ensures.1 in
    let q = nothing c.checked_sub.result (sym c.ok_or.ensures.value ∙ c.in_err-parent.was) in
    rw (p.1, p.2, q.1) (climbing_9 _ _ _ _ _ _ c.requires.lines _ _ _ c.loop-parent.invariant c.entry.ensures.0 (names_none c.checked_sub.ensures q.0))

pub upmap_node_single-next-requires : goal.upmap_node_single-next-requires
upmap_node_single-next-requires c =
    let s : c.checked_sub.result ≡ Some c.in_ok-parent.parent = grind arith in
    record { mapped = c.requires.mapped; e_lt_n = rw (names_some c.checked_sub.ensures s).0 (parent_element _ _ _ _ c.requires.lines c.loop-parent.invariant.here c.entry.ensures.0) }

pub loop-parent-preserved : goal.loop-parent-preserved
loop-parent-preserved c =
    let s : c.checked_sub.result ≡ Some c.in_ok-parent.parent = grind arith in
    let p = names_some c.checked_sub.ensures s in
    climbing_next _ _ _ _ _ _ c.requires.lines _ _ _ c.loop-parent.invariant c.entry.ensures.0 _ p.1 (search rules) (λ e. c.if-parent-output.false (p.0 ∙ e)) (rw (← p.0) c.upmap_node_single-next.ensures.0) c.upmap_node_single-next.ensures.1

pub returns-then-n-k : goal.returns-then-n-k
returns-then-n-k c =
    let s : c.checked_sub.result ≡ Some c.in_ok-parent.parent = grind arith in
    climbing_10 _ _ _ _ _ _ c.requires.lines _ _ _ c.loop-parent.invariant c.entry.ensures.0 (names_some c.checked_sub.ensures s).1 c.if-n-k.true

pub returns : goal.returns
returns c =
    let s : c.checked_sub.result ≡ Some c.in_ok-parent.parent = grind arith in
    let p = names_some c.checked_sub.ensures s in
    climbing_done _ _ _ _ _ _ c.requires.lines _ _ _ c.loop-parent.invariant c.entry.ensures.0 p.1 (search rules) (sym p.0 ∙ c.if-parent-output.true)
