-- Laws of the tests that the clauses are made of.
-- Assumes nothing.
use Rattle.std.specs.Prelude.{◌≡◌, refl, Bool, true, false, ◌&&◌, ◌⊎◌, eqb, get_or}
use Rattle.std.proofs.Common.{sym, ap, eq-eqb, ne_eqb}
use mathlib.Core.List.Memᴰ
use mathlib.Core.List.{List, [], ◌∷◌, ◌++◌, map, Memᴰ}
use Rattle.std.proofs.Math.Logic.{inl, inr}
use Prim.Native.Nat.{ℕ, zero, suc, ◌+◌, ◌≤◌, ◌<◌}
use native.Mathlib.Omega.{arith}
use Rattle.std.proofs.Math.ListN.{length}
use Rattle.orders.specs.Lists.{any, All, Pairs}
use Rattle.orders.specs.ListLaws.{either_false, lt_or_le, any_over, mem_any, none_passes, passes_none, total_none, All-map}
use Rattle.definition.specs.Basics.{among, numbered}
use Rattle.definition_account.specs.Words.{count}
use Rattle.check_laws.specs.Check.{every, is_pair, same_bytes, no_repeat}

-- ── Lists ───────────────────────────────────────────────────────────────────────────────────────────────────

pub Pairs-map : {A : Type 0} {R S : A → A → Type 0} → ((x y : A) → R x y → S x y) → (l : List A) → Pairs R l → Pairs S l
Pairs-map f [] h = tt
Pairs-map f (x ∷ l) h = (All-map (λ y r. f x y r) l h.0, Pairs-map f l h.1)

pub every_all : {A : Type 0} (p : A → Bool) (l : List A) → ((x : A) → Memᴰ x l → p x ≡ true) → every p l ≡ true
unfolding every
every_all p [] h = refl
every_all p (x ∷ l) h = rw (h x (Memᴰ.head refl), every_all p l (λ y m. h y (Memᴰ.tail m)))

pub none_any : {A : Type 0} (p : A → Bool) (l : List A) → ((x : A) → Memᴰ x l → p x ≡ false) → any p l ≡ false
unfolding any
none_any p [] h = refl
none_any p (x ∷ l) h = rw (h x (Memᴰ.head refl), none_any p l (λ y m. h y (Memᴰ.tail m)))

pub none_append : {A : Type 0} (p : A → Bool) (l m : List A) → any p l ≡ false → any p m ≡ false → any p (l ++ m) ≡ false
unfolding any
none_append p [] m e f = f
none_append p (x ∷ l) m e f = let (a, b) = either_false (p x) (any p l) e in rw (a, none_append p l m b f)

pub mem_map : {A B : Type 0} (f : A → B) (l : List A) (y : B) → Memᴰ y (map f l) → (x : A) × Memᴰ x l × (f x ≡ y)
mem_map f [] y m = absurd (Memᴰ.not-nil m)
mem_map {A} {B} f (x ∷ l) y m = go (Memᴰ.cases_cons m) (mem_map f l y)
  where
    go : (y ≡ f x) ⊎ Memᴰ y (map f l) → (Memᴰ y (map f l) → (z : A) × Memᴰ z l × (f z ≡ y)) → (z : A) × Memᴰ z (x ∷ l) × (f z ≡ y)
    go (inl e) r = (x, Memᴰ.head refl, sym e)
    go (inr e) r = let (z, a, b) = r e in (z, Memᴰ.tail a, b)

pub map_mem : {A B : Type 0} (f : A → B) (l : List A) (x : A) → Memᴰ x l → Memᴰ (f x) (map f l)
map_mem f [] x m = absurd (Memᴰ.not-nil m)
map_mem {A} {B} f (y ∷ l) x m = go (Memᴰ.cases_cons m) (map_mem f l x)
  where
    go : (x ≡ y) ⊎ Memᴰ x l → (Memᴰ x l → Memᴰ (f x) (map f l)) → Memᴰ (f x) (f y ∷ map f l)
    go (inl e) r = Memᴰ.head (ap f e)
    go (inr e) r = Memᴰ.tail (r e)

pub same_pairs : (l : List (ℕ × ℕ)) → map (λ p. (p.0, p.1)) l ≡ l
same_pairs [] = refl
same_pairs (p ∷ l) = ap (λ m. p ∷ m) (same_pairs l)

pub get_d_left : {A : Type 0} (l m : List A) (x : ℕ) (d : A) → x < length l → get_or (l ++ m) x d ≡ get_or l x d
get_d_left [] m x d h = absurd (omega arith)
get_d_left (y ∷ l) m zero d h = refl
get_d_left (y ∷ l) m (suc x) d h = get_d_left l m x d (omega arith)

-- ── Numbers ─────────────────────────────────────────────────────────────────────────────────────────────────

-- the numbers of the elements of a list, from n on
unfoldable pub numbers_of : {A : Type 0} → ℕ → List A → List ℕ
numbers_of n l = map (λ m. m.0) (numbered n l)

module _ {A : Type 0} where
  pub numbers_within : (n : ℕ) (l : List A) (x : ℕ) → Memᴰ x (numbers_of n l) → (n ≤ x) × (x < n + length l)
  unfolding numbers_of numbered
  numbers_within n [] x m = absurd (Memᴰ.not-nil m)
  numbers_within n (y ∷ l) x m = go (Memᴰ.cases_cons m) (numbers_within (suc n) l x)
    where
      go : (x ≡ n) ⊎ Memᴰ x (numbers_of (suc n) l) → (Memᴰ x (numbers_of (suc n) l) → (suc n ≤ x) × (x < suc n + length l)) → (n ≤ x) × (x < n + suc (length l))
      go (inl e) r = (omega arith, omega arith)
      go (inr e) r = let (a, b) = r e in (omega arith, omega arith)

  pub within_numbers : (n : ℕ) (l : List A) (x : ℕ) → n ≤ x → x < n + length l → Memᴰ x (numbers_of n l)
  unfolding numbers_of numbered
  within_numbers n [] x h k = absurd (omega arith)
  within_numbers n (y ∷ l) x h k = elim (lt_or_le n x) [ inl g ↦ Memᴰ.tail (within_numbers (suc n) l x (omega arith) (omega arith)) | inr g ↦ let z : x ≡ n = omega arith in Memᴰ.head z ]

  from_on : (n : ℕ) (l : List A) → All (λ x. n ≤ x) (numbers_of n l)
  unfolding numbers_of numbered
  from_on n [] = tt
  from_on n (y ∷ l) = (omega arith, All-map (λ x h. omega arith) (numbers_of (suc n) l) (from_on (suc n) l))

  pub numbers_rise : (n : ℕ) (l : List A) → Pairs (λ x y. x < y) (numbers_of n l)
  unfolding numbers_of numbered
  numbers_rise n [] = tt
  numbers_rise n (y ∷ l) = (from_on (suc n) l, numbers_rise (suc n) l)

  -- a test of each number
  pub every_number : (p : ℕ → Bool) (l : List A) → ((x : ℕ) → x < length l → p x ≡ true) → every (λ m. p m.0) (numbered 0 l) ≡ true
  unfolding numbers_of
  every_number p l h = every_all (λ m. p m.0) (numbered 0 l) (λ m e. h m.0 (within m e))
    where
      within : (m : ℕ × A) → Memᴰ m (numbered 0 l) → m.0 < length l
      within m e = let (a, b) = numbers_within 0 l m.0 (map_mem (λ m. m.0) (numbered 0 l) m e) in omega arith

-- ── What the clauses test ───────────────────────────────────────────────────────────────────────────────────

pub mem_pair : (P : List (ℕ × ℕ)) (x y : ℕ) → Memᴰ (x, y) P → is_pair P x y ≡ true
unfolding is_pair
mem_pair P x y m = mem_any (λ p. eqb p.0 x && eqb p.1 y) P (x, y) m (rw (eq-eqb x x refl, eq-eqb y y refl))

pub same_bytes_lem : (l : List ℕ) → same_bytes l l ≡ true
unfolding same_bytes
same_bytes_lem [] = refl
same_bytes_lem (b ∷ l) = rw (eq-eqb b b refl, same_bytes_lem l)

-- numbers that differ, each from each later one
pub differ_once : {A : Type 0} (f : A → ℕ) (l : List A) → Pairs (λ p q. f p ≡ f q → ⊥) l → no_repeat (map f l) ≡ true
unfolding no_repeat among
differ_once f [] h = refl
differ_once f (x ∷ l) h =
    rw (any_over f (λ y. eqb (f x) (f y)) (eqb (f x)) (λ y. refl) l, passes_none (λ y. eqb (f x) (f y)) l (All-map (λ y d. ne_eqb (f x) (f y) d) l h.0), differ_once f l h.1)

-- one that passes is counted, and what is counted passes
pub count_any : {A : Type 0} (p : A → Bool) (l : List A) → count p l ≡ 1 → any p l ≡ true
unfolding count
count_any p l e = go (any p l) refl
  where
    go : (b : Bool) → any p l ≡ b → any p l ≡ true
    go true z = z
    go false z = absurd (omega (arith, total_none p (λ x. 1) l (none_passes p l z), e))
