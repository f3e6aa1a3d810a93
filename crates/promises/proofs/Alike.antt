-- Work slices of the same lengths: as long for a call, and cleared to the same zeros.
-- Assumes nothing.
use mathlib.Core.Path.{◌≡◌, refl, sym, ap, ◌∙◌}
use mathlib.Core.List.{List, [], ◌∷◌, map}
use Prim.Native.Nat.{ℕ}
use lib.ListN.{length, replicate}
use Rattle.promises.specs.Slices.{needed, lengths, zeros, zeroed}

by_length : (l : List (List ℕ)) → zeroed l ≡ map (λ n. replicate n 0) (map length l)
unfolding zeroed zeros
by_length [] = refl
by_length (s ∷ l) = ap (λ t. replicate (length s) 0 ∷ t) (by_length l)

pub zeroed_alike : (v w : List (List ℕ)) → map length v ≡ map length w → zeroed v ≡ zeroed w
zeroed_alike v w e = by_length v ∙ (ap (map (λ n. replicate n 0)) e ∙ sym (by_length w))

pub asked_alike : (v w : List (List ℕ)) → map length v ≡ map length w → lengths needed v ≡ lengths needed w
unfolding lengths
asked_alike v w e = rw e refl
