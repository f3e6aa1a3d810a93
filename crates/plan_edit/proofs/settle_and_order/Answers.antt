-- `settle_and_order` meets its contract. One law for each answer.
use mathlib.Core.Path.{sym, ◌∙◌}
use native.Mathlib.Omega.{arith}
use lib.Seq.{length-take-le}
use Rattle.std.proofs.lemmas.Result.{err_from_is_err_and}
use Rattle.read_layout.specs.Layout.{arrays_at}
use Rattle.plan_model.specs.Ready.{ready_facts}
use Rattle.plan_edit.proofs.Settling.{notes_refused, plan_made}
use Rattle.plan_edit.proofs.settle_and_order.Goals as goal

pub settle_notes-requires : goal.settle_notes-requires
unfolding arrays_at
settle_notes-requires c =
    let p = c.requires in
    let few = p.ready.within.limits.notes in
    record {
      counts = (c.numbers.ensures.1 ∙ sym c.noted.ensures.1, omega (arith, c.noted.ensures.1, few), omega (arith, c.noted.ensures.1, few, p.in_bounds.2));
      all = rw (c.noted.ensures.0, c.numbers.ensures.0, p.counted) (ready_facts p.ready).notes;
    }

pub returns-in_err-settle_notes : goal.returns-in_err-settle_notes
unfolding arrays_at
returns-in_err-settle_notes c =
    let p = err_from_is_err_and c.from_residual.result c.from_residual.ensures.1 in
    let settled = rw (c.noted.ensures.0, c.numbers.ensures.0, c.noted.ensures.1, c.requires.counted) at c.settle_notes.ensures in
    rw (p.1, p.2) (notes_refused c.requires.ready c.requires.rewrote settled _ c.in_err-settle_notes.was _ _)

pub returns : goal.returns
unfolding arrays_at
returns c =
    let settled = rw (c.noted.ensures.0, c.numbers.ensures.0, c.noted.ensures.1, c.requires.counted) at c.settle_notes.ensures in
    let many = length-take-le c.args.c c.args.order.now (omega (arith, c.requires.rewrote.few, c.requires.in_bounds.0)) in
    plan_made c.requires.ready c.requires.rewrote settled c.in_ok-settle_notes.was _ (rw many at c.running_order-runs.ensures.value) (rw many at c.running_order-runs.ensures.running_after) c.count_discarded-discarded.ensures
