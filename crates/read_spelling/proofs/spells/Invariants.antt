use Prim.Native.Nat.{◌+◌, ◌-◌}
use Rattle.read_spelling.proofs.Reading.{Reading}
use Rattle.read_spelling.proofs.spells.Given as goal

abbrev pub invariant-loop-d : goal.invariant-loop-d
invariant-loop-d l = Reading l.columns.bytes.now l.columns.kinds l.columns.measures l.columns.count l.trees l.bytes l.left l.d l.sum l.i

abbrev pub decreases-loop-d : goal.decreases-loop-d
decreases-loop-d l = (l.columns.count - l.i) + (l.columns.count - l.i) + l.d
