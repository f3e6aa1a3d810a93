-- The changes of each owner, linked: `first` tells the first change of an owner and `next` the one after a change, each as index + 1; 0 = none.
-- Assumes nothing.
use Rattle.std.specs.Prelude.{◌≡◌, ℕ, zero, suc, ◌≤◌, ◌<◌, length, get_or, eqb, false, Option, None, Some}
use mathlib.Core.List.{List, [], ◌∷◌, ◌++◌, flat_map}
use Rattle.definition.specs.Basics.{keep}
use Rattle.plan_postorder.specs.Order.{owned_at}

-- what is told of the owner of the row at place k: index + 1, 0 = none; None if it is discarded or no place below 256 owns it
abbrev pub OwnerOf : List ℕ → ℕ → Option ℕ → Type 0
OwnerOf w k None = (p : ℕ) → p ≤ 256 → owned_at w p k ≡ false
OwnerOf w k (Some o) = (o ≤ 256) × ((p : ℕ) → p ≤ 256 → owned_at w p k ≡ eqb o p)

-- the links from k on tell the places qs, all below 256
abbrev pub Linked : List ℕ → ℕ → List ℕ → Type 0
Linked next k [] = k ≡ 0
Linked next k (q ∷ qs) = (k ≡ suc q) × (q < 256) × Linked next (get_or next q 0) qs

-- the places of each owner, as `below` lists them, are linked
pub record Links (below : ℕ → List ℕ) (first next : List ℕ) : Type 0 where
  pub firsts : length first ≡ 257
  pub nexts : length next ≡ 256
  pub told : (o : ℕ) → o ≤ 256 → Linked next (get_or first o 0) (below o)

-- of the places qs, those that the owner o has
abbrev pub owned_by : List ℕ → List ℕ → ℕ → List ℕ
owned_by w qs o = keep (owned_at w o) qs

-- the places that the links from k on tell, at most m
unfoldable pub chain : List ℕ → ℕ → ℕ → List ℕ
chain next zero k = []
chain next (suc m) zero = []
chain next (suc m) (suc k) = k ∷ chain next m (get_or next k 0)

-- those that they tell of the owner o
abbrev pub linked_to : List ℕ → List ℕ → ℕ → List ℕ
linked_to first next o = chain next 256 (get_or first o 0)

-- those of the owner o, each after its own dependents; n may remain
unfoldable pub linked_runs : List ℕ → List ℕ → ℕ → ℕ → List ℕ
linked_runs first next zero o = []
linked_runs first next (suc n) o = flat_map (λ q. linked_runs first next n (suc q) ++ (q ∷ [])) (linked_to first next o)

-- all that run below the owner o: more may remain than there are
abbrev pub dependents : List ℕ → List ℕ → ℕ → List ℕ
dependents first next o = linked_runs first next 257 o
