-- `syntax_series_follow` meets its contract.
-- Assumes nothing.
use Rattle.syntax_series.specs.Returned.{follow_small, follow_returned}
use Rattle.syntax_series.proofs.syntax_series_follow.Goals as goal

pub number_written-requires : goal.number_written-requires
number_written-requires c = follow_small c.follow-told.ensures.follows

pub returns : goal.returns
returns c =
    let s = c.follow-told.ensures.same in
    rw (c.table-1.given.1.1 s.0, c.source-1.given.1.1 s.1, c.changes-1.given.1.1 s.2, c.notes-1.given.1.1 s.3, c.incoming-1.given.1.1 s.4, c.changed-1.given.1.1 s.5, c.marks-1.given.1.1 s.6, c.rows-1.given.1.1 s.7, c.prepared-1.given.1.1 s.8)
    (follow_returned c.follow-told.ensures.follows _ c.number_written.ensures)
