use Rattle.finish_find.proofs.OldPath.{Rising}
use Rattle.finish_find.proofs.path_in_tree.Given as goal

abbrev pub invariant-loop-parent : goal.invariant-loop-parent
invariant-loop-parent l = Rising l.elements.count l.elements.table.now l.k l.path l.at l.from

abbrev pub decreases-loop-parent : goal.decreases-loop-parent
decreases-loop-parent l = l.at
