use Rattle.rows_path.proofs.Turns.{Following}
use Rattle.rows_path.proofs.resolve.Given as goal

abbrev pub invariant-loop-step : goal.invariant-loop-step
invariant-loop-step l = Following l.tree l.n l.path l.at l.start l.step-index
