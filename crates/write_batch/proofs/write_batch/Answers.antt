-- `write_batch` meets its contract: what is written, and then zeros.
use Rattle.write_batch.proofs.Ways.{all_told}
use Rattle.write_batch.proofs.write_batch.Goals as goal

pub returns-clause-writes : goal.returns-clause-writes
returns-clause-writes c = all_told _ _ _ _ c.write_lists-written.ensures.told c.write_lists-written.ensures.lengths c.clear_work.ensures.zeros
