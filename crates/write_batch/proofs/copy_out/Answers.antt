-- `copy_out` meets its contract: there is no room, or the batch is copied.
use borrow.Author.Rules.{rules}
use Rattle.write_batch.proofs.Ways.{no_room, copied}
use Rattle.write_batch.proofs.copy_out.Goals as goal

pub returns-then-destination-batch : goal.returns-then-destination-batch
returns-then-destination-batch c = search (no_room, rules)

pub returns : goal.returns
returns c = search (copied, rules)
