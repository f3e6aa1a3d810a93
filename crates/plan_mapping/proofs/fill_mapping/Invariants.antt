use Rattle.words.specs.List.{words_of}
use Rattle.plan_mapping.proofs.Filling.{Filling}
use lib.ListN.{length}
use Rattle.plan_mapping.proofs.fill_mapping.Given as goal

abbrev pub invariant-loop-i : goal.invariant-loop-i
invariant-loop-i l = Filling (words_of l.inputs) (words_of l.outputs) (length l.fn.map) l.map l.i
