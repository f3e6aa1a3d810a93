-- How often a number stands in a list; lists in which each number stands as often are permutations of each other.
-- Assumes nothing.
use Rattle.std.proofs.Math.Path.{◌≡◌, refl}
use Rattle.std.proofs.Common.{sym, ap, ◌∙◌, subst, zero-add, arith, eqb-true, eq-eqb, ne_eqb}
use Rattle.std.specs.Prelude.{Bool, ℕ, zero, suc, ◌+◌, ◌≤◌, ◌<◌, eqb}
use Rattle.std.proofs.Math.Bool.{true, false, cond}
use mathlib.Core.List.Permᴰ
use mathlib.Core.List.{List, [], ◌∷◌, ◌++◌, Permᴰ}
use Rattle.std.proofs.lemmas.Bool.{eqb-false}
use Rattle.orders.specs.Lists.{pick, total}
use Rattle.definition.specs.Basics.{keep}
use Rattle.definition_laws.specs.Basics.{keep_yes, keep_no, up_from, total_append}

-- how often y stands in l
abbrev pub times : ℕ → List ℕ → ℕ
times y l = total (λ x. eqb x y) (λ x. 1) l

pub times_cons : (y x : ℕ) (l : List ℕ) → times y (x ∷ l) ≡ cond (eqb x y) 1 0 + times y l
unfolding total
times_cons y x l = refl

pub times_nil : (y : ℕ) → times y [] ≡ 0
unfolding total
times_nil y = refl

times_self : (x : ℕ) (l : List ℕ) → times x (x ∷ l) ≡ suc (times x l)
times_self x l = times_cons x x l ∙ rw (eq-eqb x x refl) (omega arith)

-- ── Permutations ────────────────────────────────────────────────────────────────────────────────────────────

-- a list parted at y
record Parted (y : ℕ) (m : List ℕ) : Type 0 where
  left : List ℕ
  right : List ℕ
  parted : m ≡ left ++ (y ∷ right)

parted_at : (y : ℕ) (m : List ℕ) → 0 < times y m → Parted y m
parted_at y [] h = absurd (omega (arith, times_nil y))
parted_at y (x ∷ m) h = go (eqb x y) refl (parted_at y m)
  where
    go : (b : Bool) → eqb x y ≡ b → (0 < times y m → Parted y m) → Parted y (x ∷ m)
    go true e r = record { left = []; right = m; parted = ap {B = List ℕ} (λ z. z ∷ m) (eqb-true x y e) }
    go false e r =
        let q : times y (x ∷ m) ≡ 0 + times y m = times_cons y x m ∙ rw e in
        let p = r (omega arith) in
        record { left = x ∷ p.left; right = p.right; parted = ap {B = List ℕ} (λ z. x ∷ z) p.parted }

times_middle : (y x : ℕ) (l m : List ℕ) → times y (l ++ (x ∷ m)) ≡ times y (x ∷ (l ++ m))
times_middle y x l m =
    total_append (λ z. eqb z y) (λ z. 1) l (x ∷ m)
    ∙ omega (arith, times_cons y x m, times_cons y x (l ++ m), total_append (λ z. eqb z y) (λ z. 1) l m)

pub perm_times : (l m : List ℕ) → ((y : ℕ) → times y l ≡ times y m) → Permᴰ l m
perm_times [] [] h = Permᴰ.nil
perm_times [] (x ∷ m) h = absurd (omega (arith, h x, times_self x m, times_nil x))
perm_times (x ∷ l) m h =
    let p = parted_at x m (omega (arith, h x, times_self x l)) in
    let u = p.left in
    let v = p.right in
    let fewer : (y : ℕ) → times y l ≡ times y (u ++ v) = λ y. omega (arith, h y, ap (times y) p.parted, times_middle y x u v, times_cons y x l, times_cons y x (u ++ v)) in
    subst (Permᴰ (x ∷ l)) (sym p.parted) (Permᴰ.trans (Permᴰ.cons refl (perm_times l (u ++ v) fewer)) (Permᴰ.symm (Permᴰ.middle x u v)))

-- ── Counts ──────────────────────────────────────────────────────────────────────────────────────────────────

module _ (p : ℕ → Bool) where
  -- of those that pass a test, those that are y: all or none
  pub total_one_of : (y : ℕ) (l : List ℕ) → total p (λ x. cond (eqb x y) 1 0) l ≡ cond (p y) (times y l) 0
  unfolding total
  total_one_of y [] = go (p y)
    where
      go : (b : Bool) → ◌≡◌ {A = ℕ} 0 (cond b 0 0)
      go true = refl
      go false = refl
  total_one_of y (x ∷ l) = rw (total_one_of y l) (go (eqb x y) refl)
    where
      here : (b : Bool) (n : ℕ) → cond b 1 0 + cond b n 0 ≡ cond b (1 + n) 0
      here true n = refl
      here false n = refl

      nothing : (b : Bool) (n : ℕ) → cond b 0 0 + n ≡ n
      nothing true n = omega arith
      nothing false n = omega arith

      go : (e : Bool) → eqb x y ≡ e → cond (p x) (cond e 1 0) 0 + cond (p y) (times y l) 0 ≡ cond (p y) (cond e 1 0 + times y l) 0
      go true e = rw (eqb-true x y e) (here (p y) (times y l))
      go false e = rw (nothing (p x) (cond (p y) (times y l) 0), zero-add (times y l))

  pub times_keep : (y : ℕ) (l : List ℕ) → times y (keep p l) ≡ cond (p y) (times y l) 0
  unfolding keep pick total
  times_keep y l = kept l ∙ total_one_of y l
    where
      kept : (l : List ℕ) → times y (keep p l) ≡ total p (λ x. cond (eqb x y) 1 0) l
      kept [] = refl
      kept (x ∷ l) = go (p x) refl (kept l)
        where
          go : (b : Bool) → p x ≡ b → times y (keep p l) ≡ total p (λ x. cond (eqb x y) 1 0) l → times y (keep p (x ∷ l)) ≡ cond b (cond (eqb x y) 1 0) 0 + total p (λ x. cond (eqb x y) 1 0) l
          go true e h = rw (keep_yes p x l e) (times_cons y x (keep p l) ∙ rw h)
          go false e h = rw (keep_no p x l e) (h ∙ omega arith)

-- numbers one after another: those before the first are not there, the others stand once each
pub times_before : (y k n : ℕ) → y < k → times y (up_from k n) ≡ 0
unfolding up_from
times_before y k zero h = times_nil y
times_before y k (suc n) h = times_cons y k (up_from (suc k) n) ∙ rw (ne_eqb k y (λ e. omega arith), times_before y (suc k) n (omega arith))

pub times_up : (y k n : ℕ) → k ≤ y → y < k + n → times y (up_from k n) ≡ 1
unfolding up_from
times_up y k zero h i = absurd (omega arith)
times_up y k (suc n) h i = times_cons y k (up_from (suc k) n) ∙ go (eqb k y) refl (times_up y (suc k) n)
  where
    go : (b : Bool) → eqb k y ≡ b → (suc k ≤ y → y < suc k + n → times y (up_from (suc k) n) ≡ 1) → cond b 1 0 + times y (up_from (suc k) n) ≡ 1
    go true e r = let q = eqb-true k y e in omega (arith, times_before y (suc k) n (omega arith))
    go false e r = let q : ¬ (k ≡ y) = eqb-false k y e in omega (arith, r (omega arith) (omega arith))
