-- Laws on sums over those that pass a test.
-- Assumes nothing.
use Rattle.std.specs.Prelude.{◌≡◌, Bool, ℕ, ◌+◌, ◌≤◌, length}
use Rattle.std.proofs.Math.Path.{refl, sym}
use Rattle.std.proofs.Math.Bool.{true, false, cond}
use mathlib.Core.List.{List, [], ◌∷◌, flat_map}
use Rattle.std.proofs.Common.{zero-add, length-append}
use native.Mathlib.Omega.{arith}
use Rattle.orders.specs.Lists.{pick, total}
use Rattle.definition.specs.Basics.{keep}
use Rattle.definition_laws.specs.Basics.{total_le, total_add, total_zero}
use Rattle.plan_sort.specs.Lists.{keep_cons}

abbrev pub all : {X : Type 0} → X → Bool
all x = true

module _ {X : Type 0} where
  -- each term at most another's, of those that pass the same test
  pub total_at_most : (p : X → Bool) (f g : X → ℕ) → ((x : X) → f x ≤ g x) → (l : List X) → total p f l ≤ total p g l
  total_at_most p f g h l = total_le p f p g (λ x. go (p x) (f x) (g x) (h x)) l
    where
      go : (b : Bool) (m n : ℕ) → m ≤ n → cond b m 0 ≤ cond b n 0
      go true m n k = k
      go false m n k = omega arith

  -- those that pass, counted
  pub total_count : (p : X → Bool) (l : List X) → total all (λ x. cond (p x) 1 0) l ≡ total p (λ x. 1) l
  unfolding total
  total_count p [] = refl
  total_count p (x ∷ l) = rw (total_count p l)

  pub total_most : (f : X → ℕ) → ((x : X) → f x ≤ 1) → (l : List X) → total all f l ≤ length l
  unfolding total
  total_most f h [] = omega arith
  total_most f h (x ∷ l) = omega (arith, h x, total_most f h l)

module _ {X Y : Type 0} (p : X → Bool) (q : Y → Bool) (f : X → Y → ℕ) where
  pub total_swap : (l : List X) (m : List Y) → total p (λ x. total q (λ y. f x y) m) l ≡ total q (λ y. total p (λ x. f x y) l) m
  unfolding total
  total_swap [] m = sym (total_zero q m)
  total_swap (x ∷ l) m =
      rw (total_add q (λ y. cond (p x) (f x y) 0) (λ y. total p (λ x. f x y) l) m, ← total_swap l m) (go (p x))
    where
      go : (b : Bool) → cond b (total q (λ y. f x y) m) 0 + total p (λ x. total q (λ y. f x y) m) l ≡ total q (λ y. cond b (f x y) 0) m + total p (λ x. total q (λ y. f x y) m) l
      go true = refl
      go false = rw (total_zero q m)

-- the length of lists joined, of those that pass
pub length_kept : {X Y : Type 0} (p : X → Bool) (g : X → List Y) (l : List X) → length (flat_map g (keep p l)) ≡ total p (λ x. length (g x)) l
unfolding flat_map total keep pick
length_kept p g [] = refl
length_kept {X} {Y} p g (x ∷ l) = rw (keep_cons p x l) (go (p x) (length_kept p g l))
  where
    go : (b : Bool) → length (flat_map g (keep p l)) ≡ total p (λ x. length (g x)) l → length (flat_map g (cond b (x ∷ keep p l) (keep p l))) ≡ cond b (length (g x)) 0 + total p (λ x. length (g x)) l
    go true e = rw (length-append (g x) (flat_map g (keep p l)), e)
    go false e = rw (zero-add) e
