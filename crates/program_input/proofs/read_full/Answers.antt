-- `read_full` meets its contract: each turn takes more of the input, and puts it behind.
use Rattle.std.proofs.Common.{◌-◌, length, rules}
use Rattle.program_input.proofs.Reading.{consumes_more, front_more}
use Rattle.program_input.proofs.read_full.Goals as goal

pub loop-done-preserved : goal.loop-done-preserved
loop-done-preserved g c =
    let d = c.loop-done.done in
    let n = c.in-Ok.n in
    let s = c.loop-done.buf in
    let ys = c.read.new.buf in
    let e = front_more d (length s - d) n s ys (c.loop-done.invariant.0) (c.in-Ok.ensures.bound.0) in
    (search rules, rw e (consumes_more _ _ _ _ _ c.loop-done.invariant.1 c.in-Ok.ensures.bytes.0))
