-- `syntax_write` meets its contract: the number of what `write_batch` tells.
-- Assumes nothing.
use Rattle.edit_numbers.specs.ReturnedBatch.{write_small, write_returned}
use Rattle.syntax_edit.proofs.syntax_write.Goals as goal

pub number_written-requires : goal.number_written-requires
number_written-requires c = write_small c.write_batch-told.ensures.writes

pub returns : goal.returns
returns c =
    let s = c.write_batch-told.ensures.same in
    rw (c.draft-1.given.1.1 s.0, c.table-1.given.1.1 s.1, c.source-1.given.1.1 s.2)
    (write_returned c.write_batch-told.ensures.writes _ c.number_written.ensures)
