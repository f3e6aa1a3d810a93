-- `syntax_find_element` meets its contract: the number of what `serve` answers.
-- Assumes nothing.
use Rattle.edit_numbers.proofs.Returned.{find_small, find_returned}
use Rattle.syntax_edit.proofs.syntax_find_element.Goals as goal

pub number_of-requires : goal.number_of-requires
number_of-requires c = find_small c.serve-told.ensures.serves

pub returns : goal.returns
returns c =
    let s = c.serve-told.ensures.same in
    rw (c.table-1.given.1.1 s.0, c.source-1.given.1.1 s.1, c.changes-1.given.1.1 s.2, c.notes-1.given.1.1 s.3, c.incoming-1.given.1.1 s.4, c.changed-1.given.1.1 s.5, c.marks-1.given.1.1 s.6, c.rows-1.given.1.1 s.7, c.prepared-1.given.1.1 s.8)
    (find_returned c.serve-told.ensures.serves _ c.number_of.ensures)
