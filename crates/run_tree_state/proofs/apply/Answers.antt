-- `apply` meets its contract.
use mathlib.Core.Path.{◌≡◌}
use native.Mathlib.Omega.{arith}
use Rattle.std.specs.Prelude.{None, Some, Err}
use Rattle.std.proofs.lemmas.Result.{err_from_is_err_and}
use Rattle.run_tree_state.proofs.Sizing.{apply_done, apply_refused, apply_asks}
use Rattle.refusals.specs.declared.Refusal.TheVariants.{Large}
use Rattle.run_tree_state.proofs.apply.Goals as goal

pub step_size-requires : goal.step_size-requires
step_size-requires c = let v = c.requires.fact in record { rows_in_bounds = (v.long, v.few, v.order, v.high); notes_in_bounds = (v.long_notes, v.few_notes); bytes_bound = (v.few_bytes, v.measured) }

pub returns-in_err-bytes : goal.returns-in_err-bytes
returns-in_err-bytes c =
    let n : c.step_size.result ≡ None = grind arith in
    let p = err_from_is_err_and c.from_residual.result c.from_residual.ensures.1 in
    let e : c.from_residual.result ≡ Err Large = grind arith in
    rw e (apply_refused c.requires.fact c.args.parts.now.bounded c.step_size.ensures n)

pub splice_held-requires : goal.splice_held-requires
splice_held-requires c =
    let p = c.requires in
    let s : c.step_size.result ≡ Some c.in_ok-bytes.bytes = grind arith in
    record { fact = p.fact; room = apply_asks p.fact c.args.parts.now.bounded c.step_size.ensures s p.room }

pub returns : goal.returns
returns c =
    let s : c.step_size.result ≡ Some c.in_ok-bytes.bytes = grind arith in
    apply_done c.requires.fact c.args.parts.now.bounded c.step_size.ensures s c.splice_held.ensures
