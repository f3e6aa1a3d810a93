-- Two lists as one of pairs, from some number on.
-- Assumes nothing.
use mathlib.Core.List.{List, [], ◌∷◌, zip, zip_with}
use mathlib.Core.Path.{◌≡◌, refl}
use Prim.Native.Nat.{ℕ, zero, suc, ◌≤◌, ◌<◌, min}
use native.Mathlib.Omega.{arith}
use lib.ListN.{length, get_or, drop}

-- from number i on
pub zip_next : (xs ys : List ℕ) (i : ℕ) → i < length xs → i < length ys → drop i (zip xs ys) ≡ (get_or xs i 0, get_or ys i 0) ∷ drop (suc i) (zip xs ys)
unfolding zip zip_with
zip_next [] ys i h g = absurd (omega arith)
zip_next (x ∷ xs) [] i h g = absurd (omega arith)
zip_next (x ∷ xs) (y ∷ ys) zero h g = refl
zip_next (x ∷ xs) (y ∷ ys) (suc i) h g = zip_next xs ys i (omega arith) (omega arith)

-- and past the last of either
pub zip_done : (xs ys : List ℕ) (i : ℕ) → min (length xs) (length ys) ≤ i → drop i (zip xs ys) ≡ []
unfolding zip zip_with
zip_done [] ys zero h = refl
zip_done [] ys (suc i) h = refl
zip_done (x ∷ xs) [] zero h = refl
zip_done (x ∷ xs) [] (suc i) h = refl
zip_done (x ∷ xs) (y ∷ ys) zero h = absurd (omega arith)
zip_done (x ∷ xs) (y ∷ ys) (suc i) h = zip_done xs ys i (omega arith)
