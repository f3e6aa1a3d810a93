-- Lists: what a function picks, tests and properties of the elements, a relation between any two, a sum.
-- Assumes nothing.
use Rattle.std.specs.Prelude.{Bool, false, cond, ◌||◌, List, [], ◌∷◌, ℕ, ◌+◌, Option as Answered, Some, None}
use Rattle.std.proofs.Math.Option.{Option, none, some}

-- the option that the code's option is
abbrev pub meant : {A : Type 0} → Answered A → Option A
meant None = none
meant (Some x) = some x

-- the list behind what an option holds
abbrev pub more {ℓ} : {A : Type ℓ} → Option A → List A → List A
more none l = l
more (some x) l = x ∷ l

-- the elements of a list to which f gives something, as what it gives
unfoldable pub pick {ℓ κ} : {A : Type ℓ} {B : Type κ} → (A → Option B) → List A → List B
pick f [] = []
pick f (x ∷ xs) = more (f x) (pick f xs)

-- some element passes the test
unfoldable pub any {ℓ} : {A : Type ℓ} → (A → Bool) → List A → Bool
any p [] = false
any p (x ∷ l) = p x || any p l

-- a property of each element
abbrev pub All {ℓ κ} : {A : Type ℓ} → (A → Type κ) → List A → Type κ
All P [] = Unit
All P (x ∷ xs) = P x × All P xs

-- a relation between each element and each later one
abbrev pub Pairs {ℓ κ} : {A : Type ℓ} → (A → A → Type κ) → List A → Type κ
Pairs R [] = Unit
Pairs R (x ∷ xs) = All (R x) xs × Pairs R xs

-- the sum of f over the elements that pass a test
unfoldable pub total {ℓ} : {A : Type ℓ} → (A → Bool) → (A → ℕ) → List A → ℕ
total p f [] = 0
total p f (x ∷ xs) = cond (p x) (f x) 0 + total p f xs
