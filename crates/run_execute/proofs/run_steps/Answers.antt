-- `run_steps` meets its contract. The run is that of the changes left, from what is held now.
use native.Mathlib.Omega.{arith}
use mathlib.Core.Path.{◌≡◌, refl}
use Prim.Native.Nat.{◌^◌, ◌<◌}
use lib.ListN.{get_or}
use Rattle.std.proofs.lemmas.Result.{err_from_is_err_and}
use Rattle.run_execute.proofs.Walking.{run_done, run_refused, walking_listed, walking_next, walking_performs, walking_room, walking_standing}
use Rattle.run_execute.proofs.run_steps.Goals as goal

pub step-requires : goal.step-requires
step-requires c =
    let p = c.requires in
    let v = c.loop-k.invariant in
    let k = get_or c.args.running.now c.loop-k.k-index 0 in
    let e : (k ≡ k) × (k < 2 ^ 32) = (refl, omega (arith, c.type_inv.running c.loop-k.k-index)) in
    let r = walking_room v.0 c.loop-k-test.true e p.all in
    record {
      standing = walking_standing v.0;
      in_bounds = (omega arith, omega arith, omega arith, omega arith, omega arith);
      listed_low = walking_listed v.0 c.args.task.now.listed.now k p.listed_low e.1;
      performs = walking_performs v.0 c.loop-k-test.true e p.all;
      k_in_bounds = omega arith;
    }

pub returns-in_err-s : goal.returns-in_err-s
returns-in_err-s c =
    let p = err_from_is_err_and c.from_residual.result c.from_residual.ensures.1 in
    let k = get_or c.args.running.now c.loop-k.k-index 0 in
    let e : (k ≡ k) × (k < 2 ^ 32) = (refl, omega (arith, c.type_inv.running c.loop-k.k-index)) in
    rw (p.1, p.2) (run_refused c.loop-k.invariant.0 c.loop-k-test.true e c.requires.all c.step.ensures c.in_err-s.was)

pub loop-k-preserved : goal.loop-k-preserved
loop-k-preserved c =
    let p = c.requires in
    let v = c.loop-k.invariant in
    let s = c.step.auto in
    let k = get_or c.args.running.now c.loop-k.k-index 0 in
    let e : (k ≡ k) × (k < 2 ^ 32) = (refl, omega (arith, c.type_inv.running c.loop-k.k-index)) in (
      walking_next v.0 c.loop-k-test.true e p.all c.step.ensures c.in_ok-s.was (omega (arith, s.rows)) (omega (arith, s.changed)),
      omega (arith, s.rows),
      omega (arith, s.marks),
      omega (arith, s.notes),
      omega (arith, s.changed),
      omega (arith, s.prepared),
      omega (arith, s.sizes),
      omega (arith, s.incoming),
    )

pub returns : goal.returns
returns c = run_done c.loop-k.invariant.0 c.loop-k-test.false
