-- What one walk over a tree finds: where it ends, where the text of each of its rows starts, and how long its text is.
-- Assumes nothing.
use Rattle.std.specs.Prelude.{◌≡◌, ℕ, ◌*◌, ◌/◌, ◌^◌, ◌<◌, length, take}
use mathlib.Core.List.{List, flat_map}
use Rattle.rows_model.specs.Row.{own, triples}
use Rattle.rows_syntax_node.specs.Promises.{After}
use Rattle.finish_arrays.specs.declared.Extent.{Extent}
use Rattle.finish_arrays.specs.Starts.{Starts}

-- of the tree whose root is the first row of a run: r says how many rows it has and how long its text is, and l is d with its text starts at the front
pub record Scanned (run text d l : List ℕ) (r : Extent) : Type 0 where
  pub rows : After run (length run / 3) 0 1 r.rows
  pub starts : Starts (take (3 * r.rows) run) d l
  pub size : r.size ≡ length (flat_map own (triples text (take (3 * r.rows) run)))
  pub small : r.size < 2 ^ 32
