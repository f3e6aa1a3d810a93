use Rattle.series_check.specs.Rows.{Filling}
use Rattle.series_check.proofs.fill_rows.Given as goal

abbrev pub invariant-loop-i : goal.invariant-loop-i
invariant-loop-i l = Filling l.columns.bytes.now l.columns.kinds l.columns.measures l.columns.count l.initial.rows l.rows l.offset l.i
