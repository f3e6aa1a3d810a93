-- A run moves the paths of tree 0 as all its splices and root replacements in a row do, each at its place of that moment (document 02, Note 14).
-- Assumes nothing.
use Rattle.std.specs.Prelude.{Bool, cond, ℕ, eqb, length}
use mathlib.Core.List.{List, [], ◌∷◌}
use Rattle.std.proofs.Math.Option.{Option, none, some, bind}
use Rattle.orders.specs.Lists.{pick}
use Rattle.orders.specs.Tree.{Path, adjust}
use Rattle.definition.specs.Elements.{Table}
use Rattle.definition.specs.Planning.{Planned}
use Rattle.definition.specs.Running.{World, news, Run, place}
use Rattle.definition.specs.Performed.{met}

-- a run of children in tree 0, or its root
unfoldable pub in0 : Run → Bool
in0 r = elim r.parent [ [] ↦ eqb r.from 0 | t ∷ q ↦ eqb t 0 ]

-- what a step does to the paths of tree 0: the run to which it goes now, and how many come in; none in another tree
unfoldable pub move_at : Table → World × Planned → Option (Run × ℕ)
move_at T m = bind (place T m.0 m.1.change) (λ r. cond (in0 r) (some (r, length (news m.1.change))) none)

-- "all its splices and root replacements in a row": those of performed changes
unfoldable pub moves_of : Table → World → List Planned → List (Run × ℕ)
moves_of T first ps = pick (move_at T) (met T first first ps)

-- a path after such moves, one after another by the path rule; once dropped it stays so
unfoldable pub in_a_row : List (Run × ℕ) → Path → Option Path
in_a_row [] p = some p
in_a_row (m ∷ ms) p = bind (adjust m.0.parent m.0.from m.0.to m.1 p) (λ q. in_a_row ms q)
