use Rattle.write_layout.proofs.Ways.{Calling}
use Rattle.write_layout.proofs.append_calls.Given as goal

abbrev pub invariant-loop-i : goal.invariant-loop-i
invariant-loop-i l = Calling l.initial.draft l.at l.lists.operations.now l.lists.counts.now l.lists.rules.now l.draft l.i
