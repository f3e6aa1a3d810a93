-- `record_calls` meets its contract. The calls passed are recorded, and have taken their elements.
use Rattle.record_queue.proofs.Recordings.{recording_start, recording_taken, recording_fits, recording_next, recording_done}
use borrow.Author.Rules.{rules}
use native.Mathlib.Omega.{arith}
use mathlib.Core.Path.{◌∙◌}
use Rattle.record_queue.proofs.record_calls.Goals as goal

pub loop-i-init : goal.loop-i-init
loop-i-init c = search (recording_start, rules)

pub part-own-requires : goal.part-own-requires
part-own-requires c = recording_taken c.loop-i.invariant (omega arith) (search rules) c.get-word.ensures.0 c.get-target.ensures.0 c.count_of-count.ensures

pub record_call-q-requires-clause-call_fits : goal.record_call-q-requires-clause-call_fits
record_call-q-requires-clause-call_fits c =
    (recording_fits c.loop-i.invariant (omega arith) (search rules) c.get-word.ensures.0 c.get-target.ensures.0 c.count_of-count.ensures c.part-own.result c.part-own.ensures (search rules), c.part-own.ensures.2 ∙ c.count_of-count.ensures)

pub loop-i-preserved : goal.loop-i-preserved
loop-i-preserved c =
    recording_next c.loop-i.invariant (omega arith) (search rules) c.get-word.ensures.0 c.get-target.ensures.0 c.count_of-count.ensures c.part-own.result c.part-own.ensures c.record_call-q.ensures (search rules)

pub returns : goal.returns
returns c = search (recording_done, rules)
