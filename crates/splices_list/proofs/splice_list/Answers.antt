-- `splice_list` meets its contract.
use native.Mathlib.Omega.{arith}
use lib.ListN.{length}
use Prim.Native.Nat.{◌<◌}
use borrow.Author.Rules.{rules}
use Rattle.splices_list.proofs.Turns.{numbered_below, numbered_rising, numbered_few, numbered_bounds, listed_all}
use Rattle.splices_list.proofs.splice_list.Goals as goal

pub splice_each-requires : goal.splice_each-requires
splice_each-requires c =
    let e = c.number_from.ensures in
    let g = c.requires in
    let h : length c.args.marks.now < 65536 = omega (arith, g.room.rows) in
    record { room = search rules; risen = numbered_rising (length c.args.marks.now) e; marks_below = (numbered_few (length c.args.marks.now) _ e h, numbered_below (length c.args.marks.now) e); in_bounds = numbered_bounds (length c.args.marks.now) _ e g.bounds }

pub returns : goal.returns
returns c = search (listed_all, rules)
