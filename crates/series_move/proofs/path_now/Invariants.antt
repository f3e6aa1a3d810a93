use Rattle.series_move.specs.Paths.{Writing}
use Rattle.series_move.proofs.path_now.Given as goal

abbrev pub invariant-loop-j : goal.invariant-loop-j
invariant-loop-j l = Writing l.ways.run.source.now l.ways.run.elements l.ways.run.marks.now l.ways.run.rows.words.now l.ways.run.rows.count l.path l.initial.out l.out l.x l.mark l.j
