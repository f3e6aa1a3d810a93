-- A whole run: the steps in tree 0 are its splices done where their targets tell, so where they are apart all that demand 3 says holds of it, whatever planned it.
-- Assumes nothing.
use Rattle.std.specs.Prelude.{◌≡◌, ℕ, ◌<◌, length}
use mathlib.Core.List.{List, [], ◌∷◌, map}
use Rattle.std.proofs.Math.Option
use Rattle.std.proofs.Math.Option.{some}
use Rattle.orders.specs.Lists.{pick}
use Rattle.orders.specs.Tree.{Tree, Path, resolve}
use Rattle.orders.specs.Splices.{Splice, State}
use Rattle.orders.proofs.Demand.{Demanded}
use Rattle.definition.specs.Basics.{numbered}
use Rattle.definition.specs.Elements.{Table, row}
use Rattle.definition.specs.Planning.{Planned}
use Rattle.definition.specs.Running.{World, present}
use Rattle.definition.specs.Finishing.{new_tree}
use Rattle.definition.specs.Performed.{to_splice, met, told}

-- the splices of the steps that are performed, "numbered as performed" from n on
abbrev pub splices_from : Table → World → ℕ → List (World × Planned) → List (Splice ℕ)
splices_from T first n ms = map to_splice (numbered n (pick (told T first) ms))

-- the splices of a run, in tree 0 and placed there by the old paths
abbrev pub splices_in0 : Table → World → List Planned → List (Splice ℕ)
splices_in0 T first ps = splices_from T first 0 (met T first first ps)

-- all that demand 3 says holds of tree 0 of the world and of the present paths of its elements
pub record DemandedOf (old : Tree ℕ) (S : List (Splice ℕ)) (T : Table) (w : World) : Type 0 where
  pub now : State ℕ
  pub demanded : Demanded old S now
  pub tree : new_tree w ≡ now.tree ∷ []
  pub paths : (x : ℕ) (e : Path) → x < length T → (row T x).path ≡ 0 ∷ e → present w x ≡ Option.map (λ p. 0 ∷ p) (now.path e)
  -- "An old path is an old element's": each is the path of an element of the table
  pub elements : (e : Path) (t : Tree ℕ) → resolve e old ≡ some t → (x : ℕ) × (x < length T) × ((row T x).path ≡ 0 ∷ e)
