use Prim.Native.Nat.{◌/◌}
use lib.ListN.{length}
use Rattle.run_prepare.specs.Parts.{notes_in}
use Rattle.run_prepare.proofs.Turns.{Preparing}
use Rattle.run_prepare.proofs.prepare.Given as goal

abbrev pub invariant-loop-i : goal.invariant-loop-i
invariant-loop-i l =
    Preparing l.stores.trees.rows.words.now l.stores.trees.rows.count l.stores.source.now l.stores.trees.marks.now l.stores.first.now (notes_in l.stores.notes.now) l.list (length l.list / 4) l.at l.initial.prepared l.initial.size-items l.initial.incoming l.prepared l.size-items l.incoming l.i l.held.rows l.held.notes
