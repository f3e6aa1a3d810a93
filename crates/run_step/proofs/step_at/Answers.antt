-- `step_at` meets its contract.
use mathlib.Core.Path.{◌≡◌, sym}
use native.Mathlib.Omega.{arith}
use lib.Seq.{length-take-le}
use Rattle.std.specs.Prelude.{None, Some, Err}
use Rattle.std.proofs.lemmas.Result.{err_from_is_err_and}
use Rattle.refusals.specs.declared.Refusal.TheVariants.{Large}
use Rattle.run_step.proofs.Steps.{made_small, asks_apply, step_done, step_refused, notes_held}
use Rattle.run_step.proofs.step_at.Goals as goal

pub invariant_of-stores : goal.invariant_of-stores
invariant_of-stores c = let t = c.requires.task_in_bounds in let v = c.requires.fact in record { few_rows = v.few; few = t.0; long = t.1; few_notes = notes_held v; few_first = t.2 }

pub overflow_mul-parts : goal.overflow_mul-parts
overflow_mul-parts c = let s : c.prepare.result ≡ Some c.in_ok-made.made = grind arith in let a = made_small c.requires.fact c.args.list.now c.prepare.ensures s in omega (arith, a.0)

pub slice_bounds-parts-end : goal.slice_bounds-parts-end
slice_bounds-parts-end c = let s : c.prepare.result ≡ Some c.in_ok-made.made = grind arith in let a = made_small c.requires.fact c.args.list.now c.prepare.ensures s in omega (arith, a.0, c.prepare.auto.prepared, c.requires.room.2)

pub slice_bounds-parts-end-2 : goal.slice_bounds-parts-end-2
slice_bounds-parts-end-2 c = let s : c.prepare.result ≡ Some c.in_ok-made.made = grind arith in let a = made_small c.requires.fact c.args.list.now c.prepare.ensures s in sym (length-take-le _ _ (omega (arith, a.0, c.prepare.auto.prepared, c.requires.room.2)))

pub overflow_mul-parts-2 : goal.overflow_mul-parts-2
overflow_mul-parts-2 c = let s : c.prepare.result ≡ Some c.in_ok-made.made = grind arith in let a = made_small c.requires.fact c.args.list.now c.prepare.ensures s in omega (arith, a.3)

pub slice_bounds-parts-end-5 : goal.slice_bounds-parts-end-5
slice_bounds-parts-end-5 c = let s : c.prepare.result ≡ Some c.in_ok-made.made = grind arith in let a = made_small c.requires.fact c.args.list.now c.prepare.ensures s in omega (arith, a.3, c.prepare.auto.incoming, c.requires.room.4)

pub slice_bounds-parts-end-6 : goal.slice_bounds-parts-end-6
slice_bounds-parts-end-6 c = let s : c.prepare.result ≡ Some c.in_ok-made.made = grind arith in let a = made_small c.requires.fact c.args.list.now c.prepare.ensures s in sym (length-take-le _ _ (omega (arith, a.3, c.prepare.auto.incoming, c.requires.room.4)))

pub invariant_of-parts : goal.invariant_of-parts
invariant_of-parts c = let s : c.prepare.result ≡ Some c.in_ok-made.made = grind arith in let p = c.requires in let y = p.task_in_bounds.3 in record { bounded = (asks_apply p.fact c.args.list.now c.prepare.ensures s (omega (arith, c.prepare.auto.prepared)) (omega (arith, c.prepare.auto.sizes)) (omega (arith, c.prepare.auto.incoming)) (omega (arith, y))).1 }

pub apply-requires : goal.apply-requires
apply-requires c = let s : c.prepare.result ≡ Some c.in_ok-made.made = grind arith in let p = c.requires in let y = p.task_in_bounds.3 in record { fact = (asks_apply p.fact c.args.list.now c.prepare.ensures s (omega (arith, c.prepare.auto.prepared)) (omega (arith, c.prepare.auto.sizes)) (omega (arith, c.prepare.auto.incoming)) (omega (arith, y))).0; room = (p.room.0, p.room.1) }

pub returns-in_err-made : goal.returns-in_err-made
returns-in_err-made c =
    let n : c.prepare.result ≡ None = grind arith in
    let p = err_from_is_err_and c.from_residual.result c.from_residual.ensures.1 in
    let e : c.from_residual.result ≡ Err Large = grind arith in
    rw e (step_refused c.requires.fact c.args.list.now c.prepare.ensures n)

pub returns : goal.returns
returns c = let s : c.prepare.result ≡ Some c.in_ok-made.made = grind arith in let y = c.requires.task_in_bounds.3 in step_done c.requires.fact c.args.list.now c.prepare.ensures s (omega (arith, c.prepare.auto.sizes, y)) (omega (arith, c.prepare.auto.incoming)) c.apply.ensures
