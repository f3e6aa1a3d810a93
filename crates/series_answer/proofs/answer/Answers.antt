-- `answer` meets its contract.
use Rattle.series_answer.specs.Telling.{tells_refused}
use Rattle.series_answer.specs.Ends.{after_refused, after_overlap, after_done}
use Rattle.series_answer.proofs.answer.Goals as goal

pub answer_end-requires : goal.answer_end-requires
answer_end-requires c = c.requires.leaves _ c.in-Ok.is

pub returns-in-Refused : goal.returns-in-Refused
returns-in-Refused c = tells_refused _ (after_refused _ c.in-Err.is c.in-Refused.is)

pub returns-in-Overlap : goal.returns-in-Overlap
returns-in-Overlap c = tells_refused _ (after_overlap _ c.in-Err.is c.in-Overlap.is)

pub returns-in-Ok : goal.returns-in-Ok
returns-in-Ok c = rw (← after_done _ c.in-Ok.is) c.answer_end.ensures
