-- `record_change` meets its contract: a row is added, stays, or is written over.
use Rattle.record_queue.proofs.Recordings.{record_added, record_stays, record_over}
use borrow.Author.Rules.{rules}
use Rattle.record_queue.proofs.record_change.Goals as goal

pub returns-in_default : goal.returns-in_default
returns-in_default c = record_added _ _ _ _ _ _ _ c.requires.0 c.requires.2 _ c.in_default.ensures.0 c.write_row.ensures

pub returns-then-is_idle : goal.returns-then-is_idle
returns-then-is_idle c = search (record_stays, rules)

pub returns : goal.returns
returns c = record_over _ _ _ _ _ _ _ c.requires.0 c.requires.2 c.in-Some.k c.in-Some.ensures.0 (search rules) _ c.is_idle.ensures _ c.if-is_idle.false c.write_row-2.ensures
