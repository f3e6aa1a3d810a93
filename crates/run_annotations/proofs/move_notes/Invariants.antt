use Rattle.run_annotations.proofs.Turns.{MovingNotes}
use Rattle.run_annotations.proofs.move_notes.Given as goal

abbrev pub invariant-loop-i : goal.invariant-loop-i
invariant-loop-i l = MovingNotes l.initial.notes l.k l.shift.from l.shift.to l.shift.count l.notes l.i l.r
