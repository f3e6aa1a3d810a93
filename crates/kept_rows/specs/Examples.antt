-- The pairs of marks, by computation.
-- Assumes nothing.
use Rattle.std.specs.Prelude.{◌≡◌, refl, [], ◌∷◌}
use Rattle.orders.specs.Tree.{zone}
use Rattle.rows_model.specs.Place.{in_run}
use Rattle.kept_rows.specs.Pairs.{pair_at, pairs_from}

-- tree 0 ends before row 5: element 0 stays the root, 1 is gone, 2 stands at row 4 and so has number 3, 3 is in another tree
pub pairs_shown : pairs_from 5 0 (1 ∷ 0 ∷ 4 ∷ 5 ∷ []) ≡ (0, 0) ∷ (2, 3) ∷ []
unfolding pairs_from pair_at in_run zone
pairs_shown = refl
