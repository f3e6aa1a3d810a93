-- The words of tree 0, as a part of the words of all trees: how long their text is.
-- Assumes nothing.
use Rattle.std.proofs.Math.Path.{ap}
use mathlib.Core.List.{List, []}
use Rattle.std.specs.Prelude.{ℕ, ◌^◌, ◌<◌, drop}
use Rattle.std.proofs.Common.{arith}
use Rattle.rows_model.specs.Row.{bytes, skip, triples, first_rows}
use Rattle.rows_model.specs.Place.{subtree}
use Rattle.rows_syntax_node.specs.Promises.{Part}
use Rattle.finish_arrays.specs.TextSizes.{bytes_any, bytes_part}

module _ {rows : List ℕ} {n : ℕ} {tree : List ℕ} (p : Part rows n 1 tree) where
  pub tree_bytes : (text : List ℕ) → bytes (first_rows text n rows) < 2 ^ 32 → bytes (triples [] tree) < 2 ^ 32
  unfolding subtree
  tree_bytes text h = omega (arith, bytes_any [] text tree, ap bytes (p.told text), bytes_part 1 (skip 1 (drop 1 (first_rows text n rows))) (first_rows text n rows))
