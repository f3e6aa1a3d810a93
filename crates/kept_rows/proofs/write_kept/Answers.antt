-- `write_kept` meets its contract: one pair after another.
use borrow.Author.Rules.{rules}
use Rattle.kept_rows.proofs.Ways.{pairing, old_room, new_room, pairing_next, pairing_sum, pairing_half, pairing_done}
use Rattle.kept_rows.proofs.write_kept.Goals as goal

pub loop-i-init : goal.loop-i-init
loop-i-init c = search (pairing, rules)

pub overflow_add-half : goal.overflow_add-half
overflow_add-half c = search (pairing_half, rules)

pub write_pair-to-requires : goal.write_pair-to-requires
write_pair-to-requires c = search (old_room, new_room, rules)

pub overflow_add-to : goal.overflow_add-to
overflow_add-to c = search (pairing_sum, rules)

pub loop-i-preserved : goal.loop-i-preserved
loop-i-preserved c = search (pairing_next, rules)

pub returns : goal.returns
returns c = search (pairing_done, rules)
