-- The loop of `fill_mapping`: the mappings that are left go over the array as it stands.
-- Assumes nothing.
use mathlib.Core.List.{List, ◌∷◌, foldl, zip}
use mathlib.Core.Path.{◌≡◌, sym, ap, ◌∙◌}
use Prim.Native.Nat.{ℕ, suc, ◌+◌, ◌≤◌, ◌<◌, min}
use native.Mathlib.Numerals.{add-one}
use native.Mathlib.Omega.{arith}
use lib.ListN.{length, get_or, set, drop, replicate, length-set, length-replicate}
use Rattle.plan_mapping.proofs.Pairs.{zip_next, zip_done}
use Rattle.plan_mapping.specs.Mapped.{noted, mapping_words, Bounded}

pub record Filling (xs ys : List ℕ) (k : ℕ) (map : List ℕ) (i : ℕ) : Type 0 where
  pub long : length map ≡ k
  pub bounded : Bounded k 2048 (drop i (zip xs ys))
  pub rest : foldl noted map (drop i (zip xs ys)) ≡ mapping_words k (zip xs ys)

module _ (xs ys : List ℕ) where
  pub filling_start : (map₀ map : List ℕ) → map ≡ replicate (length map₀) 0 → Bounded (length map₀) 2048 (zip xs ys) → Filling xs ys (length map₀) map 0
  unfolding mapping_words
  filling_start map₀ map q h = record { long = ap length q ∙ length-replicate (length map₀) 0; bounded = h; rest = rw q }

  module _ (k : ℕ) (map : List ℕ) (i : ℕ) (F : Filling xs ys k map i) where
    pub filling_done : (m n : ℕ) → length xs ≡ m → length ys ≡ n → min m n ≤ i → map ≡ mapping_words k (zip xs ys)
    filling_done m n e f h = sym (ap (foldl noted map) (zip_done xs ys i (rw (e, f) h))) ∙ F.rest

    module _ (m n x y : ℕ) (e : length xs ≡ m) (f : length ys ≡ n) (h : i < min m n) (ex : x ≡ get_or xs i 0) (ey : y ≡ get_or ys i 0) where
      onward : drop i (zip xs ys) ≡ (x, y) ∷ drop (i + 1) (zip xs ys)
      onward = rw (ex, ey, add-one i) (zip_next xs ys i (omega arith) (omega arith))

      pub filling_in : (x < length map) × (y < 2048)
      filling_in = let a = rw onward at F.bounded in (omega (arith, a.0.0, F.long), a.0.1)

      pub filling_next : Filling xs ys k (set map x (y + 1)) (i + 1)
      unfolding noted
      filling_next =
          let a = rw onward at F.bounded in
          rw (add-one y)
          (record { long = length-set map x (suc y) ∙ F.long; bounded = a.1; rest = sym (ap (foldl noted map) onward) ∙ F.rest })
