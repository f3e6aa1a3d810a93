use Rattle.load_lists.specs.Turns.{NotesTo}
use Rattle.load_lists.proofs.fill_notes.Given as goal

abbrev pub invariant-loop-i : goal.invariant-loop-i
invariant-loop-i l = NotesTo l.initial.present l.noted l.numbers l.present l.i
