-- THE ACCOUNT OF RULE 1 IS TRUE: what it says of a change is so, and where it is so it says so.
-- Assumes nothing.
use Rattle.std.specs.Prelude.{◌≡◌, Bool, not, ◌&&◌}
use Rattle.std.proofs.Math.Bool.{true, false}
use mathlib.Core.List.{List}
use Rattle.std.proofs.Math.Option.{some}
use Prim.Native.Nat.{ℕ}
use Rattle.std.proofs.Math.ListN.{get_elem?}
use Rattle.orders.specs.Lists.{All}
use Rattle.definition.specs.Basics.{numbered}
use Rattle.definition.specs.Elements.{Table}
use Rattle.definition.specs.Recording.{Change}
use Rattle.definition.specs.Planning.{Fate, own, dependent, discarded, is_discarded, node_by_node}
use Rattle.definition.specs.EdgeRule.{takes, fates1}
use Rattle.definition_edge.specs.Region.{Innermost}

module _ (T : Table) where
  -- "an undiscarded call 2 of a node by a node"
  abbrev pub owns : Fate → Change → Bool
  owns f c = not (is_discarded f) && node_by_node T c

-- the fate at a place
abbrev pub FateAt : Table → List Change → ℕ → Fate → Type 0
FateAt T cs i f = get_elem? (fates1 T cs) i ≡ some f

-- the change c, at place i, belongs to the region at place k, the innermost that takes it, which makes inner changes dependent if `keeps`, else discards them
pub record Under (T : Table) (cs : List Change) (i : ℕ) (c : Change) (k : ℕ) (keeps : Bool) : Type 0 where
  pub region : Change
  pub innermost : Innermost T (numbered 0 cs) (i, c) (k, region)
  pub fate : Fate
  pub told : FateAt T cs k fate
  pub owns : owns T fate region ≡ keeps

-- what a fate says of the change c at place i
abbrev pub Says : Table → List Change → ℕ → Change → Fate → Type 0
Says T cs i c own = All (λ r. takes T r (i, c) ≡ false) (numbered 0 cs)
Says T cs i c (dependent k) = Under T cs i c k true
Says T cs i c (discarded k) = Under T cs i c k false
