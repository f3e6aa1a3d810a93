-- `append_calls` meets its contract: call by call.
use borrow.Author.Rules.{rules}
use Rattle.write_layout.proofs.Ways.{calling_start, calling_next, calling_done}
use Rattle.write_layout.proofs.append_calls.Goals as goal

pub loop-i-init : goal.loop-i-init
loop-i-init c = search (calling_start, rules)

pub loop-i-preserved : goal.loop-i-preserved
loop-i-preserved c = calling_next c.loop-i.invariant c.requires.operations_len c.loop-i-test.true c.requires.operations_in_bounds c.call_word.ensures c.draft-1.given c.write_word.ensures

pub returns : goal.returns
returns c = search (calling_done, rules)
