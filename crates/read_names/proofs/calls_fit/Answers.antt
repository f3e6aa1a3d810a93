-- `calls_fit` meets its contract; the other answers are found.
use native.Mathlib.Omega.{arith}
use Rattle.read_names.proofs.Calling.{calling_wrong}
use Rattle.read_names.proofs.calls_fit.Goals as goal

pub returns-then-not-call_stands : goal.returns-then-not-call_stands
returns-then-not-call_stands c =
    calling_wrong c.loop-i.invariant (omega arith) c.requires c.get-word.ensures.0 c.get-target.ensures.0 c.count_of-count.ensures c.part-own.result c.part-own.ensures (omega arith) c.call_stands.ensures c.if-not-call_stands.true
