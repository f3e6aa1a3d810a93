-- Where the text of an element starts in its tree, by its path: by its row, and in the definition's table.
-- Assumes nothing.
use Rattle.std.specs.Prelude.{[], ◌∷◌, ℕ, ◌+◌, length, take}
use Rattle.std.proofs.Math.ListN.{get_elem?}
use Rattle.orders.specs.Tree.{Tree, node, token, list, forest, Path, text_of}
use Rattle.rows_model.specs.Place.{or_zero}

-- Note 7: "the element's text start in its tree": the text of all that stands to its left, on the way down
unfoldable pub offset : Path → Tree ℕ → ℕ
offset [] t = 0
offset (i ∷ p) (token k x) = 0
offset (i ∷ p) (node k cs) = length (text_of (forest (take i (list cs)))) + or_zero (offset p) (get_elem? (list cs) i)
