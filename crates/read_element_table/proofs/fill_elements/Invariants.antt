use Prim.Native.Nat.{◌+◌, ◌-◌}
use Rattle.read_element_table.proofs.Writing.{Writing}
use Rattle.read_element_table.proofs.fill_elements.Given as goal

abbrev pub invariant-loop-d : goal.invariant-loop-d
invariant-loop-d l =
    Writing l.columns.bytes.now l.columns.kinds l.columns.measures l.columns.count l.trees l.bytes l.initial.table l.initial.source l.table l.source l.stack l.x l.d l.o l.at l.tree l.i

abbrev pub decreases-loop-d : goal.decreases-loop-d
decreases-loop-d l =
    (l.columns.count - l.i) + (l.columns.count - l.i) + l.d
