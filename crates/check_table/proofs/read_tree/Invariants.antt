use Rattle.check_table.proofs.Reading.{Reading, lefts, owners_of}
use lib.ListN.{length}
use Prim.Native.Nat.{◌+◌, ◌-◌}
use Rattle.check_table.proofs.read_tree.Given as goal

abbrev pub invariant-loop-d : goal.invariant-loop-d
invariant-loop-d l = Reading l.kinds l.measures l.bytes l.initial.table l.table (lefts l.open) (owners_of l.open) l.d l.sum l.i

abbrev pub decreases-loop-d : goal.decreases-loop-d
decreases-loop-d l = (length l.kinds - l.i) + (length l.kinds - l.i) + l.d
