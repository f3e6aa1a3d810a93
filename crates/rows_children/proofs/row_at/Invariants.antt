use Rattle.rows_children.proofs.Turns.{Walking}
use Rattle.rows_children.proofs.row_at.Given as goal

abbrev pub invariant-loop-step : goal.invariant-loop-step
invariant-loop-step l = Walking l.rows.words.now l.rows.count l.path l.at l.step-index
