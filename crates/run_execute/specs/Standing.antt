-- Room in what is lent, what the run starts from, and what is held between steps: passed on.
-- Assumes nothing.
pub use Rattle.run_step.specs.Standing.{Lent, Begun, first_world, first_told, Now, now_first, Standing}
