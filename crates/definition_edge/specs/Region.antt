-- The region to which a change belongs by edge rule 1: the innermost of all that take it, and no other.
-- Assumes nothing.
use Rattle.std.proofs.Math.Path.{◌≡◌}
use Rattle.std.specs.Prelude.{◌⊎◌}
use Rattle.std.proofs.Math.Bool.{true}
use mathlib.Core.List.{List, Memᴰ}
use Prim.Native.Nat.{ℕ, ◌≤◌, ◌<◌}
use Rattle.orders.specs.Lists.{Pairs}
use Rattle.definition.specs.Elements.{Table}
use Rattle.definition.specs.Recording.{Change}
use Rattle.definition.specs.EdgeRule.{takes, region_depth}

-- places rise
abbrev pub Rising : {A : Type 0} → List (ℕ × A) → Type 0
Rising l = Pairs (λ q r. q.0 < r.0) l

module _ (T : Table) where
  -- s is not further in than r: "the greatest depth of target parent, .. and among equals the last in sorted order"
  abbrev pub Outer : ℕ × Change → ℕ × Change → Type 0
  Outer s r = (region_depth T s.1 < region_depth T r.1) ⊎ ((region_depth T s.1 ≡ region_depth T r.1) × (s.0 ≤ r.0))

  -- r is "the innermost region of the whole batch such that" c belongs to it
  pub record Innermost (all : List (ℕ × Change)) (c r : ℕ × Change) : Type 0 where
    pub one : Memᴰ r all
    pub belongs : takes T r c ≡ true
    pub outer : (s : ℕ × Change) → Memᴰ s all → takes T s c ≡ true → Outer s r
