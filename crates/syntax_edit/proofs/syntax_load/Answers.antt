-- `syntax_load` meets its contract: the number of what `load` tells.
-- Assumes nothing.
use Rattle.edit_numbers.specs.ReturnedBatch.{write_small, write_returned}
use Rattle.syntax_edit.proofs.syntax_load.Goals as goal

pub number_written-requires : goal.number_written-requires
number_written-requires c = write_small c.load-told.ensures.loads

pub returns : goal.returns
returns c =
    let s = c.load-told.ensures.same in
    rw (c.draft-1.given.1.1 s.0, c.table-1.given.1.1 s.1, c.source-1.given.1.1 s.2)
    (write_returned c.load-told.ensures.loads _ c.number_written.ensures)
