-- Regions: popping until one contains the change finds the last one that contains it.
-- Assumes nothing.
use Rattle.std.specs.Prelude.{◌≡◌, Bool, cond, ℕ}
use Rattle.std.proofs.Math.Path.{refl}
use Rattle.std.proofs.Math.Bool.{true, false}
use mathlib.Core.List.{List, [], ◌∷◌, ◌++◌}
use Rattle.std.proofs.Math.Option.{none, some}
use Rattle.orders.specs.Lists.{All}
use Rattle.definition.specs.Basics.{first}
use Rattle.definition.specs.Planning.{own, Region, contains, around, fate}

module _ (a b : ℕ) where
  -- what `around` leaves of the stack: it takes off the regions that do not contain the range, down to the first that does
  pub record Popped (rs : List Region) : Type 0 where
    pub off : List Region
    pub parted : off ++ around a b rs ≡ rs
    pub none_contains : All (λ r. contains a b r ≡ false) off

  pub around_off : (r : Region) (rs : List Region) → contains a b r ≡ false → around a b (r ∷ rs) ≡ around a b rs
  unfolding around
  around_off r rs e = rw e

  pub around_stays : (r : Region) (rs : List Region) → contains a b r ≡ true → around a b (r ∷ rs) ≡ r ∷ rs
  unfolding around
  around_stays r rs e = rw e

  pub popped : (rs : List Region) → Popped rs
  unfolding around
  popped [] = record { off = []; parted = refl; none_contains = tt }
  popped (r ∷ rs) = go (contains a b r) refl (popped rs)
    where
      go : (c : Bool) → contains a b r ≡ c → Popped rs → Popped (r ∷ rs)
      go true e h = record { off = []; parted = around_stays r rs e; none_contains = tt }
      go false e h = record { off = r ∷ h.off; parted = rw (around_off r rs e, h.parted); none_contains = (e, h.none_contains) }

  -- the region to which a change belongs: the last that contains it (the last stands first)
  pub fate_around : (rs : List Region) → fate (around a b rs) ≡ elim (first (contains a b) rs) [ none ↦ own | some r ↦ r.inner ]
  unfolding around fate first
  fate_around [] = refl
  fate_around (r ∷ rs) = go (contains a b r) refl (fate_around rs)
    where
      go : (c : Bool) → contains a b r ≡ c → fate (around a b rs) ≡ elim (first (contains a b) rs) [ none ↦ own | some s ↦ s.inner ]
          → fate (around a b (r ∷ rs)) ≡ elim (cond c (some r) (first (contains a b) rs)) [ none ↦ own | some s ↦ s.inner ]
      go true e h = rw (around_stays r rs e)
      go false e h = rw (around_off r rs e) h
