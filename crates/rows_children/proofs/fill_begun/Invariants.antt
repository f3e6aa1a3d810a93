use Rattle.rows_children.proofs.Turns.{Counting}
use Rattle.rows_children.proofs.fill_begun.Given as goal

abbrev pub invariant-loop-i : goal.invariant-loop-i
invariant-loop-i l = Counting l.rows.words.now l.rows.count l.initial.begun l.begun l.i l.trees
