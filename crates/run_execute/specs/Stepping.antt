-- A row that may be performed: passed on.
-- Assumes nothing.
pub use Rattle.run_step.specs.Stepping.{Performs}
