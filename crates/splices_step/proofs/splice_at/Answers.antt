-- `splice_at` meets its contract.
use native.Mathlib.Omega.{arith}
use lib.ListN.{length}
use Prim.Native.Nat.{◌*◌, ◌≤◌}
use borrow.Author.Rules.{rules}
use Rattle.splices_step.proofs.Turns.{run_long, takes_node, takes_lost, takes_gained, stepped}
use Rattle.splices_step.proofs.splice_at.Goals as goal

pub splice-requires : goal.splice-requires
splice-requires c =
    let l = run_long c.args.list.now.splices.words.now c.args.list.now.prepared.now c.args.i c.requires.stocked.1 c.part.ensures in
    let t = c.requires.gap_at.1 in
    let w = c.requires.gap_at.0 in
    let f : 3 * c.args.n ≤ length c.args.rows.now = omega (arith, c.requires.i_in_bounds.0) in
    record { n_in_bounds = (f, c.requires.i_in_bounds.1, w.low, w.order, w.high, c.requires.i_in_bounds.2); run_len = search rules; risen = c.requires.risen; bound = (takes_node _ _ _ _ t, takes_lost _ _ _ _ t, takes_gained _ _ _ _ t) }

pub returns : goal.returns
returns c = search (stepped, rules)
