use Rattle.rows_children.proofs.Turns.{Building}
use Rattle.rows_children.proofs.fill_children.Given as goal

abbrev pub invariant-loop-i : goal.invariant-loop-i
invariant-loop-i l = Building l.rows.words.now l.rows.count l.initial.roots l.initial.first l.initial.child l.roots l.first l.child l.i l.top l.to
