use Rattle.run_annotations.proofs.Turns.{Adding}
use Rattle.run_annotations.proofs.add_changed.Given as goal

abbrev pub invariant-loop-i : goal.invariant-loop-i
invariant-loop-i l = Adding l.initial.changed l.k l.at l.rule l.sizes l.changed l.i l.row
