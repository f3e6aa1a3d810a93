use Rattle.words.specs.List.{words_of}
use Rattle.plan_notes.proofs.Settling.{Settling}
use Rattle.plan_notes.proofs.settle_notes.Given as goal

abbrev pub invariant-loop-i : goal.invariant-loop-i
invariant-loop-i l = Settling (words_of l.noted) (words_of l.numbers) l.noted.count l.mapping.elements.count l.mapping.elements.table.now l.mapping.elements.source.now l.mapping.map.now l.initial.notes l.i l.notes
