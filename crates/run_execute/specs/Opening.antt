-- Bounds of what is held: passed on.
-- Assumes nothing.
pub use Rattle.run_step.specs.Opening.{rows_some, rows_few, notes_few, bytes_few, marks_below}
