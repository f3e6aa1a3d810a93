use Rattle.std.specs.Prelude.{◌<◌}
use Rattle.finish_find.proofs.Turns.{Finding}
use Rattle.finish_find.proofs.find_in_tree.Given as goal

abbrev pub invariant-loop-i : goal.invariant-loop-i
invariant-loop-i l = Finding l.rows.words.now l.rows.count l.kind l.start l.sum l.owed l.i × (0 < l.owed)
