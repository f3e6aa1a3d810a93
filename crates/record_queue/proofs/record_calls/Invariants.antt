use Rattle.read_element_table.specs.View.{view}
use Rattle.record_queue.proofs.Recordings.{Recording}
use Rattle.record_queue.proofs.record_calls.Given as goal

abbrev pub invariant-loop-i : goal.invariant-loop-i
invariant-loop-i l = Recording (view l.elements.count l.elements.table.now l.elements.source.now) l.elements.count l.calls l.targets l.listed l.initial.rows l.q.start l.q.count l.taken l.i l.rows
