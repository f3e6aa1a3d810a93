use Rattle.run_annotations.proofs.Turns.{Taking}
use Rattle.run_annotations.proofs.notes_in.Given as goal

abbrev pub invariant-loop-i : goal.invariant-loop-i
invariant-loop-i l = Taking l.notes l.p l.q l.at l.most l.initial.out l.count l.out l.i l.c
