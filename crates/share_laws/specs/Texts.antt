-- The sum law by the trees themselves: the texts of what stands at the changed paths in tree 0, which is what a run holds.
-- Assumes nothing.
use Rattle.std.specs.Prelude.{Bool, false, ℕ, eqb}
use mathlib.Core.List.{[], ◌∷◌}
use Rattle.std.proofs.Math.Option.{get_or}
use Rattle.std.proofs.Math.ListN.{length}
use Rattle.orders.specs.Tree.{token, Path, resolve, text}
use Rattle.definition.specs.Running.{World}

-- the path is that of an element of tree 0
unfoldable pub in0 : Path → Bool
in0 [] = false
in0 (t ∷ p) = eqb t 0

-- how long the text is of what stands at a path in the current trees
unfoldable pub length_at : World → Path → ℕ
length_at w p = length (text (get_or (resolve p w.trees) (token 0 [])))
