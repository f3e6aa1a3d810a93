-- `record_and_sort` meets its contract: what is recorded is sorted.
use mathlib.Core.Path.{sym, ◌∙◌}
use native.Mathlib.Omega.{arith}
use lib.Seq.{length-take-le}
use Rattle.read_layout.specs.Layout.{arrays_at}
use Rattle.plan_edit.proofs.Sorting.{calls_fit, calls_few, rows_sorted}
use Rattle.plan_edit.proofs.record_and_sort.Goals as goal

pub record_calls-c-requires : goal.record_calls-c-requires
unfolding arrays_at
record_calls-c-requires c =
    let r = c.requires.ready in
    record {
      few = (c.targets.ensures.1 ∙ sym c.calls.ensures.1, omega (arith, c.calls.ensures.1, calls_few r), omega (arith, c.listed.ensures.1, r.within.limits.listed), omega (arith, c.calls.ensures.1, calls_few r, c.requires.in_bounds.0));
      fit = rw (c.calls.ensures.0, c.targets.ensures.0, c.listed.ensures.0, c.args.accepted.now.counted) (calls_fit r);
    }

pub returns : goal.returns
unfolding arrays_at
returns c = rows_sorted c.requires.ready _ _ _ _ _ (rw (c.calls.ensures.0, c.targets.ensures.0, c.listed.ensures.0, c.calls.ensures.1, c.args.accepted.now.counted) at c.record_calls-c.ensures) (rw (length-take-le c.record_calls-c.result c.args.order.now (omega (arith, c.record_calls-c.ensures.few, c.calls.ensures.1, calls_few c.requires.ready, c.requires.in_bounds.1))) at c.sort_rows.ensures.out_after)
