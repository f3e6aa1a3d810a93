use Rattle.words.specs.List.{words_of}
use Rattle.plan_rewrite.proofs.Rows.{Rewriting}
use Rattle.plan_rewrite.proofs.rewrite_dependents.Given as goal

abbrev pub invariant-loop-i : goal.invariant-loop-i
invariant-loop-i l = Rewriting l.mapping.elements.count l.mapping.elements.table.now l.mapping.elements.source.now l.mapping.map.now (words_of l.listed) l.rows l.c l.out l.i l.steps
