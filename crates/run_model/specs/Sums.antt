-- How many rows and text bytes a splice makes, decided before it from totals, and that where a change goes lies within the rows.
-- Assumes nothing.
use Rattle.std.specs.Prelude.{Bool, ◌||◌, ℕ, ◌≤◌, ◌<◌, ltb}
use Rattle.rows_model.specs.Row.{bytes}
use Rattle.run_model.specs.Store.{Gap}

-- where a change goes: behind its parent's row, and within the rows
pub record Within (n : ℕ) (g : Gap) : Type 0 where
  pub below : g.parent < g.from
  pub order : g.from ≤ g.to
  pub high : g.to ≤ n

-- 12 by the number of rows, of text bytes and of notes, and by the depth of what comes in
unfoldable pub too_large_by : ℕ → ℕ → ℕ → ℕ → Bool
too_large_by rows bytes notes depth = ltb 4097 rows || ltb 16384 bytes || ltb 1024 notes || ltb 64 depth
