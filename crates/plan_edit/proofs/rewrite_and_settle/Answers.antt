-- `rewrite_and_settle` meets its contract. One law for a refused dependent, one for what is left to the notes.
use native.Mathlib.Omega.{arith}
use Rattle.std.proofs.lemmas.Result.{err_from_is_err_and}
use Rattle.read_layout.specs.Layout.{arrays_at}
use Rattle.plan_edit.proofs.Rewriting.{mappings_bounded, map_mapped, rows_rewritable, rows_rewriting, dependents_refused, dependents_rewritten}
use Rattle.plan_edit.proofs.rewrite_and_settle.Goals as goal

pub fill_mapping-requires : goal.fill_mapping-requires
unfolding arrays_at
fill_mapping-requires c = record { bounded = rw (c.inputs.ensures.0, c.outputs.ensures.0) (mappings_bounded c.requires.ready _ c.requires.in_bounds.4) }

pub invariant_of-mapping : goal.invariant_of-mapping
unfolding arrays_at
invariant_of-mapping c = record { mapped = rw c.args.accepted.now.counted (map_mapped c.requires.ready (rw (c.inputs.ensures.0, c.outputs.ensures.0) at c.fill_mapping.ensures) c.requires.in_bounds.4) }

pub rewrite_dependents-requires : goal.rewrite_dependents-requires
unfolding arrays_at
rewrite_dependents-requires c =
    let p = c.requires in
    let F = p.changes_fated.within in
    record { places = omega (arith, F.few, p.in_bounds.1); rewritable = rw (c.listed.ensures.0, c.args.accepted.now.counted) (rows_rewritable p.ready F p.in_bounds.0) }

pub returns-in_err-k : goal.returns-in_err-k
unfolding arrays_at
returns-in_err-k c =
    let p = err_from_is_err_and c.from_residual.result c.from_residual.ensures.1 in
    let v = c.requires in
    let e = rw (c.inputs.ensures.0, c.outputs.ensures.0) at c.fill_mapping.ensures in
    let R = rw (c.listed.ensures.0, c.args.accepted.now.counted) at c.rewrite_dependents.ensures in
    rw (p.1, p.2) (dependents_refused v.changes_fated (rows_rewriting v.ready e v.in_bounds.4 v.changes_fated.within R) v.ready _ c.in_err-k.was _ _ _)

pub settle_and_order-requires : goal.settle_and_order-requires
unfolding arrays_at
settle_and_order-requires c =
    let v = c.requires in
    let e = rw (c.inputs.ensures.0, c.outputs.ensures.0) at c.fill_mapping.ensures in
    let R = rw (c.listed.ensures.0, c.args.accepted.now.counted) at c.rewrite_dependents.ensures in
    record {
      ready = v.ready;
      counted = c.args.accepted.now.counted;
      rewrote = dependents_rewritten v.changes_fated (rows_rewriting v.ready e v.in_bounds.4 v.changes_fated.within R) _ c.in_ok-k.was;
      in_bounds = (v.in_bounds.2, v.in_bounds.3, v.in_bounds.5);
    }
