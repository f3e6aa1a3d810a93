-- Laws on lists: what passes a test, numbers one after another, lists joined, pairs of two lists' elements, an element by its place.
-- Assumes nothing.
use Rattle.std.specs.Prelude.{◌≡◌, Bool, ◌⊎◌, length, take, drop, get_or}
use Rattle.std.proofs.Math.Path.{refl, ap}
use Rattle.std.proofs.Common.{sym, ◌∙◌, take-append-drop}
use Rattle.std.proofs.Math.Bool.{true, false, cond}
use Rattle.std.proofs.Math.Logic.{inl, inr}
use Rattle.std.proofs.Math.ListN.{get_elem?}
use Rattle.std.proofs.Math.Option
use Rattle.std.proofs.Math.Option.{Option, none, some}
use mathlib.Core.List.Memᴰ
use mathlib.Core.List.{List, [], ◌∷◌, ◌++◌, map, flat_map, zip, append_assoc, Memᴰ}
use Prim.Native.Nat.{ℕ, zero, suc, ◌+◌, ◌≤◌, ◌<◌}
use native.Mathlib.Omega.{arith}
use Rattle.orders.specs.Lists.{more, pick, All, total}
use Rattle.orders.specs.Tree.{modify}
use Rattle.orders.specs.ListLaws.{some_inj, none_some}
use Rattle.definition.specs.Basics.{keep, first, numbered}

-- ── What passes a test ──────────────────────────────────────────────────────────────────────────────────────

module _ {A : Type 0} (p : A → Bool) where
  pub keep_yes : (x : A) (l : List A) → p x ≡ true → keep p (x ∷ l) ≡ x ∷ keep p l
  unfolding keep pick
  keep_yes x l e = rw e

  pub keep_no : (x : A) (l : List A) → p x ≡ false → keep p (x ∷ l) ≡ keep p l
  unfolding keep pick
  keep_no x l e = rw e

-- ── Numbers one after another ───────────────────────────────────────────────────────────────────────────────

-- n numbers, from k on
unfoldable pub up_from : ℕ → ℕ → List ℕ
up_from k zero = []
up_from k (suc n) = k ∷ up_from (suc k) n

pub up_at : (k n e : ℕ) → e < n → get_or (up_from k n) e 0 ≡ k + e
unfolding up_from
up_at k zero e h = absurd (omega arith)
up_at k (suc n) zero h = omega arith
up_at k (suc n) (suc e) h = up_at (suc k) n e (omega arith) ∙ omega arith

pub up_long : (k n : ℕ) → length (up_from k n) ≡ n
unfolding up_from
up_long k zero = refl
up_long k (suc n) = ap suc (up_long (suc k) n)

-- one more at the end
pub up_more : {A : Type 0} (f : ℕ → A) (j k : ℕ) → map f (up_from j (suc k)) ≡ map f (up_from j k) ++ (f (j + k) ∷ [])
unfolding up_from
up_more f j zero = let z : j + 0 ≡ j = omega arith in rw z
up_more {A} f j (suc k) = let z : j + suc k ≡ suc j + k = omega arith in rw z (ap {B = List A} (λ l. f j ∷ l) (up_more f (suc j) k))

-- ── A property of each element ──────────────────────────────────────────────────────────────────────────────

module _ {A : Type 0} (P : A → Type 0) where
  pub All-append : (l m : List A) → All P l → All P m → All P (l ++ m)
  All-append [] m h k = k
  All-append (x ∷ l) m h k = (h.0, All-append l m h.1 k)

  pub append_All : (l m : List A) → All P (l ++ m) → All P l × All P m
  append_All [] m h = (tt, h)
  append_All (x ∷ l) m h = let r = append_All l m h.1 in ((h.0, r.0), r.1)

  pub All-take : (n : ℕ) (l : List A) → All P l → All P (take n l)
  All-take n l h = (append_All (take n l) (drop n l) (rw (take-append-drop n l) h)).0

  pub All-drop : (n : ℕ) (l : List A) → All P l → All P (drop n l)
  All-drop n l h = (append_All (take n l) (drop n l) (rw (take-append-drop n l) h)).1

  pub All-modify : (f : A → A) → ((x : A) → P x → P (f x)) → (n : ℕ) (l : List A) → All P l → All P (modify n f l)
  unfolding modify
  All-modify f k n [] h = tt
  All-modify f k zero (x ∷ l) h = (k x h.0, h.1)
  All-modify f k (suc n) (x ∷ l) h = (h.0, All-modify f k n l h.1)

  pub All-keep : (p : A → Bool) (l : List A) → All P l → All P (keep p l)
  unfolding keep pick
  All-keep p [] h = tt
  All-keep p (x ∷ l) h = go (p x) (All-keep p l h.1)
    where
      go : (b : Bool) → All P (keep p l) → All P (more (cond b (some x) none) (keep p l))
      go true r = (h.0, r)
      go false r = r

pub map_All : {A B : Type 0} (P : B → Type 0) (f : A → B) (l : List A) → All P (map f l) → All (λ x. P (f x)) l
map_All P f [] h = tt
map_All P f (x ∷ l) h = (h.0, map_All P f l h.1)

module _ {A B : Type 0} (P : A → Type 0) (Q : B → Type 0) where
  pub All-flatMap : (f : A → List B) → ((x : A) → P x → All Q (f x)) → (l : List A) → All P l → All Q (flat_map f l)
  unfolding flat_map
  All-flatMap f k [] h = tt
  All-flatMap f k (x ∷ l) h = All-append Q (f x) (flat_map f l) (k x h.0) (All-flatMap f k l h.1)

-- ── Lists joined ────────────────────────────────────────────────────────────────────────────────────────────

module _ {A B : Type 0} (f : A → List B) where
  pub flat_map_append : (l m : List A) → flat_map f (l ++ m) ≡ flat_map f l ++ flat_map f m
  unfolding flat_map
  flat_map_append [] m = refl
  flat_map_append (x ∷ l) m = rw (flat_map_append l m) (sym (append_assoc (f x) (flat_map f l) (flat_map f m)))

  pub flat_map_map : {C : Type 0} (g : C → A) (l : List C) → flat_map f (map g l) ≡ flat_map (λ x. f (g x)) l
  unfolding flat_map
  flat_map_map g [] = refl
  flat_map_map g (x ∷ l) = ap {B = List B} (λ r. f (g x) ++ r) (flat_map_map g l)

-- ── Pairs ───────────────────────────────────────────────────────────────────────────────────────────────────

pub zip_map : {A B C : Type 0} (f : A → B) (g : A → C) (l : List A) → zip (map f l) (map g l) ≡ map (λ x. (f x, g x)) l
unfolding zip
zip_map f g [] = refl
zip_map {A} {B} {C} f g (x ∷ l) = ap {B = List (B × C)} (λ r. (f x, g x) ∷ r) (zip_map f g l)

module _ {A B : Type 0} where
  pub first_zip : (l : List A) (m : List B) → length l ≡ length m → map (λ e. e.0) (zip l m) ≡ l
  unfolding zip
  first_zip [] m h = refl
  first_zip (x ∷ l) [] h = absurd (omega arith)
  first_zip (x ∷ l) (y ∷ m) h = ap {B = List A} (λ r. x ∷ r) (first_zip l m (omega arith))

  pub second_zip : (l : List A) (m : List B) → length l ≡ length m → map (λ e. e.1) (zip l m) ≡ m
  unfolding zip
  second_zip [] [] h = refl
  second_zip [] (y ∷ m) h = absurd (omega arith)
  second_zip (x ∷ l) [] h = absurd (omega arith)
  second_zip (x ∷ l) (y ∷ m) h = ap {B = List B} (λ r. y ∷ r) (second_zip l m (omega arith))

-- ── An element by its place ─────────────────────────────────────────────────────────────────────────────────

pub get_d_map : {A B : Type 0} (f : A → B) (l : List A) (k : ℕ) (d : B) (d' : A) → k < length l → get_or (map f l) k d ≡ f (get_or l k d')
get_d_map f [] k d d' h = absurd (omega arith)
get_d_map f (x ∷ l) zero d d' h = refl
get_d_map f (x ∷ l) (suc k) d d' h = get_d_map f l k d d' (omega arith)

-- an element numbered, and the other way round
module _ {A : Type 0} where
  pub get_numbered : (n j : ℕ) (l : List A) (i : ℕ) (x : A) → n + i ≡ j → get_elem? l i ≡ some x → get_elem? (numbered n l) i ≡ some (j, x)
  unfolding numbered
  get_numbered n j [] i x z e = none_some e
  get_numbered n j (y ∷ l) zero x z e = let k : n ≡ j = omega arith in rw (k, some_inj e)
  get_numbered n j (y ∷ l) (suc i) x z e = get_numbered (suc n) j l i x (omega arith) e

  pub numbered_get : (n : ℕ) (l : List A) (q : ℕ × A) → Memᴰ q (numbered n l) → (i : ℕ) × (q.0 ≡ n + i) × (get_elem? l i ≡ some q.1)
  unfolding numbered
  numbered_get n [] q m = absurd (Memᴰ.not-nil m)
  numbered_get n (x ∷ l) q m = go (Memᴰ.cases_cons m) (λ m. numbered_get (suc n) l q m)
    where
      go : (q ≡ (n, x)) ⊎ Memᴰ q (numbered (suc n) l) → (Memᴰ q (numbered (suc n) l) → (i : ℕ) × (q.0 ≡ suc n + i) × (get_elem? l i ≡ some q.1)) → (i : ℕ) × (q.0 ≡ n + i) × (get_elem? (x ∷ l) i ≡ some q.1)
      go (inl e) k = (0, omega (arith, ap (λ z. z.0) e), ap {B = Option A} (λ z. some z.1) (sym e))
      go (inr m) k = let (i, a, b) = k m in (suc i, omega arith, b)

-- ── Sums ────────────────────────────────────────────────────────────────────────────────────────────────────

module _ {A : Type 0} (p : A → Bool) (f : A → ℕ) where
  pub total_append : (l m : List A) → total p f (l ++ m) ≡ total p f l + total p f m
  unfolding total
  total_append [] m = omega arith
  total_append (x ∷ l) m = omega (arith, total_append l m)

  -- each term at most another's
  pub total_le : (q : A → Bool) (g : A → ℕ) → ((x : A) → cond (p x) (f x) 0 ≤ cond (q x) (g x) 0) → (l : List A) → total p f l ≤ total q g l
  unfolding total
  total_le q g h [] = omega arith
  total_le q g h (x ∷ l) = omega (arith, h x, total_le q g h l)

  -- no term but 0
  pub total_zeros : ((x : A) → p x ≡ true → f x ≡ 0) → (l : List A) → total p f l ≡ 0
  unfolding total
  total_zeros h [] = refl
  total_zeros h (x ∷ l) = go (p x) refl (total_zeros h l)
    where
      go : (b : Bool) → p x ≡ b → total p f l ≡ 0 → cond b (f x) 0 + total p f l ≡ 0
      go true e r = omega (arith, h x e)
      go false e r = omega arith

  -- two sums in one
  pub total_add : (g : A → ℕ) (l : List A) → total p (λ x. f x + g x) l ≡ total p f l + total p g l
  unfolding total
  total_add g [] = refl
  total_add g (x ∷ l) = go (p x) (total_add g l)
    where
      go : (b : Bool) → total p (λ x. f x + g x) l ≡ total p f l + total p g l
          → cond b (f x + g x) 0 + total p (λ x. f x + g x) l ≡ cond b (f x) 0 + total p f l + (cond b (g x) 0 + total p g l)
      go true e = omega arith
      go false e = omega arith

  pub total_flat_map : {B : Type 0} (t : B → Bool) (g : B → List A) (l : List B) → total p f (flat_map g (keep t l)) ≡ total t (λ x. total p f (g x)) l
  unfolding total flat_map keep pick
  total_flat_map t g [] = refl
  total_flat_map {B} t g (x ∷ l) = go (t x) refl (total_flat_map t g l)
    where
      go : (b : Bool) → t x ≡ b → total p f (flat_map g (keep t l)) ≡ total t (λ x. total p f (g x)) l
          → total p f (flat_map g (keep t (x ∷ l))) ≡ cond b (total p f (g x)) 0 + total t (λ x. total p f (g x)) l
      go true e r = rw (keep_yes t x l e) (total_append (g x) (flat_map g (keep t l)) ∙ rw r)
      go false e r = rw (keep_no t x l e) (omega arith)

pub total_zero : {A : Type 0} (p : A → Bool) (l : List A) → total p (λ x. 0) l ≡ 0
total_zero p l = total_zeros p (λ x. 0) (λ x e. refl) l

-- a list's length is a sum of ones
pub total_length : {A : Type 0} (l : List A) → total (λ x. true) (λ x. 1) l ≡ length l
unfolding total
total_length [] = refl
total_length (x ∷ l) = omega (arith, total_length l)

-- a sum over what is told of each element
pub total_map : {A B : Type 0} (g : A → B) (f : B → ℕ) (l : List A) → total (λ x. true) (λ x. f (g x)) l ≡ total (λ y. true) f (map g l)
unfolding total
total_map g f [] = refl
total_map g f (x ∷ l) = ap (λ n. f (g x) + n) (total_map g f l)

-- ── The first that passes a test ────────────────────────────────────────────────────────────────────────────

pub first_passes : {A : Type 0} (p : A → Bool) (l : List A) (x : A) → first p l ≡ some x → p x ≡ true
unfolding first
first_passes p [] x e = none_some e
first_passes {A} p (y ∷ l) x e = go (p y) refl e (first_passes p l x)
  where
    go : (b : Bool) → p y ≡ b → cond b (some y) (first p l) ≡ some x → (first p l ≡ some x → p x ≡ true) → p x ≡ true
    go true h q k = rw (some_inj q) at h
    go false h q k = k q

-- what is picked of pairs by their first parts, each second part kept, is picked of the first parts
pub pick_firsts : {X Y : Type 0} (g : X → Option Y) (l : List (X × ℕ)) → map (λ (d : Y × ℕ). d.0) (pick (λ c. Option.map (λ y. (y, c.1)) (g c.0)) l) ≡ pick g (map (λ (c : X × ℕ). c.0) l)
unfolding pick
pick_firsts g [] = refl
pick_firsts {X} {Y} g (c ∷ l) = go (g c.0) (pick_firsts g l)
  where
    kept : List (Y × ℕ)
    kept = pick (λ c. Option.map (λ y. (y, c.1)) (g c.0)) l

    go : (o : Option Y) → map (λ (d : Y × ℕ). d.0) kept ≡ pick g (map (λ (c : X × ℕ). c.0) l) → map (λ (d : Y × ℕ). d.0) (more (Option.map (λ y. (y, c.1)) o) kept) ≡ more o (pick g (map (λ (c : X × ℕ). c.0) l))
    go none r = r
    go (some y) r = ap {B = List Y} (λ m. y ∷ m) r
