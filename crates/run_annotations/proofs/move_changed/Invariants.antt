use Rattle.run_annotations.proofs.Turns.{Moving}
use Rattle.run_annotations.proofs.move_changed.Given as goal

abbrev pub invariant-loop-i : goal.invariant-loop-i
invariant-loop-i l = Moving l.initial.changed l.k l.shift.from l.shift.to l.shift.count l.changed l.i l.r
