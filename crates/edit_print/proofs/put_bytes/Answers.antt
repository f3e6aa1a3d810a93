-- `put_bytes` meets its contract.
use borrow.Author.Rules.{rules}
use Rattle.edit_print.proofs.Turns.{bytes_next, putting_done, putting_room, putting_start}
use Rattle.edit_print.proofs.put_bytes.Goals as goal

pub loop-byte-init : goal.loop-byte-init
loop-byte-init c = search (putting_start, rules)

pub put_hex-to-requires : goal.put_hex-to-requires
put_hex-to-requires c = search (putting_room, rules)

pub loop-byte-preserved : goal.loop-byte-preserved
loop-byte-preserved c = search (bytes_next, rules)

pub returns : goal.returns
returns c = search (putting_done, rules)
