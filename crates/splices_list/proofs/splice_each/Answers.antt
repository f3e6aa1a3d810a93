-- `splice_each` meets its contract.
use borrow.Author.Rules.{rules}
use Rattle.splices_list.proofs.Turns.{going_start, going_next, going_done, going_room, going_small, going_bounds}
use Rattle.splices_list.proofs.splice_each.Goals as goal

pub loop-k-init : goal.loop-k-init
loop-k-init c = search (going_start, rules)

pub splice_once-m-requires : goal.splice_once-m-requires
splice_once-m-requires c =
    let v = c.loop-k.invariant in
    let h = c.loop-k-test.true in
    record { room = search (going_room, going_small, rules); risen = v.risen; marks_below = search rules; i_in_bounds = (h, going_bounds v c.requires.room.0 h c.requires.in_bounds) }

pub loop-k-preserved : goal.loop-k-preserved
loop-k-preserved c = search (going_next, rules)

pub returns : goal.returns
returns c = search (going_done, rules)
