-- The rows at which parts come to stand, told from their sizes.
-- Assumes nothing.
use Rattle.std.specs.Prelude.{◌≡◌, refl, List, [], ◌∷◌, map, ℕ, suc, ◌+◌, length}
use Rattle.std.proofs.Common.{ap}
use Rattle.run_model.specs.Store.{Part, placed_parts}

-- the rows at which parts of some sizes stand, the first at `at`
unfoldable pub part_rows : ℕ → List ℕ → List ℕ
part_rows at [] = []
part_rows at (n ∷ sizes) = at ∷ part_rows (at + n) sizes

pub length_part_rows : (at : ℕ) (sizes : List ℕ) → length (part_rows at sizes) ≡ length sizes
unfolding part_rows
length_part_rows at [] = refl
length_part_rows at (n ∷ sizes) = ap suc (length_part_rows (at + n) sizes)

-- they are the places of the parts
pub part_rows_lem : (at : ℕ) (new : List Part) → map (λ y. y.0) (placed_parts at new) ≡ part_rows at (map (λ y. length y.rows) new)
unfolding part_rows placed_parts
part_rows_lem at [] = refl
part_rows_lem at (y ∷ ys) = ap {B = List ℕ} (λ l. at ∷ l) (part_rows_lem (at + length y.rows) ys)
