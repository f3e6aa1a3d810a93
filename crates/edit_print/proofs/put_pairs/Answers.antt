-- `put_pairs` meets its contract.
use Prim.Native.Nat.{◌+◌}
use lib.ListN.{length}
use native.Mathlib.Omega.{arith}
use borrow.Author.Rules.{rules}
use Rattle.edit_print.proofs.Turns.{pairs_done, pairs_next, pairs_room, pairs_start, pair_put}
use Rattle.edit_print.specs.Lines.{pair_line, pair_length}
use Rattle.edit_print.proofs.put_pairs.Goals as goal

pub loop-i-init : goal.loop-i-init
loop-i-init c = pairs_start (pair_line c.args.name.now) (length c.args.name.now + 23) (pair_length c.args.name.now) c.args.pairs.now.bytes.now c.args.pairs.now.at c.args.pairs.now.count c.args.out.now c.args.at c.requires

pub put_line-to-requires : goal.put_line-to-requires
put_line-to-requires c =
    let h = pairs_room (pair_line c.args.name.now) (length c.args.name.now + 23) (pair_length c.args.name.now) c.args.pairs.now.bytes.now c.args.pairs.now.at c.args.pairs.now.count c.loop-i.invariant (search rules) in
    omega (arith, h)

pub loop-i-preserved : goal.loop-i-preserved
loop-i-preserved c = pairs_next (pair_line c.args.name.now) (length c.args.name.now + 23) (pair_length c.args.name.now) c.args.pairs.now.bytes.now c.args.pairs.now.at c.args.pairs.now.count c.loop-i.invariant (search rules) (search rules) (search rules) (search rules) (pair_put _ _ _ c.put_line-to.ensures)

pub returns : goal.returns
returns c = pairs_done (pair_line c.args.name.now) (length c.args.name.now + 23) (pair_length c.args.name.now) c.args.pairs.now.bytes.now c.args.pairs.now.at c.args.pairs.now.count c.loop-i.invariant (search rules)
