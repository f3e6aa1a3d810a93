-- The region to which a change belongs by edge rule 1: the innermost of all that take it, and no other.
-- Assumes nothing.
use Rattle.std.proofs.Math.Path.{◌≡◌, refl}
use Rattle.std.proofs.Common.{sym, subst, ap, ◌∙◌, arith}
use Rattle.std.specs.Prelude.{Bool, ◌↔◌, ◌⊎◌}
use Rattle.std.proofs.Math.Bool.{true, false, cond}
use mathlib.Core.List.Memᴰ
use mathlib.Core.List.{List, [], ◌∷◌, Memᴰ}
use Rattle.std.proofs.Math.Logic.{inl, inr}
use Rattle.std.proofs.Math.Option.{Option, none, some}
use Prim.Native.Nat.{ℕ, ◌≤◌, ◌<◌}
use Rattle.std.proofs.Math.Dec.{ltb}
use borrow.Author.Tests.{ltb-true, ltb-false}
use Rattle.orders.specs.Lists.{All, Pairs}
use Rattle.orders.specs.ListLaws.{bool_absurd, bool?, some_inj, none_some, All-map, All-mem, Pairs-pick, pick_mem, mem_pick}
use Rattle.definition.specs.Basics.{keep}
use Rattle.definition.specs.Elements.{Table}
use Rattle.definition.specs.Recording.{Change}
use Rattle.definition.specs.EdgeRule.{takes, region_depth, innermost, region_of}
use Rattle.definition_edge.specs.Region.{Rising, Innermost, Outer}

-- ── Lists ───────────────────────────────────────────────────────────────────────────────────────────────────

module _ {A : Type 0} where
  pub mem_All : (P : A → Type 0) (l : List A) → ((x : A) → Memᴰ x l → P x) → All P l
  mem_All P [] f = tt
  mem_All P (x ∷ l) f = (f x (Memᴰ.head refl), mem_All P l (λ y m. f y (Memᴰ.tail m)))

  module _ (p : A → Bool) where
    keep_mem : (l : List A) (x : A) → Memᴰ x (keep p l) → Memᴰ x l × (p x ≡ true)
    unfolding keep
    keep_mem l x m = let (y, a, e) = pick_mem (λ y. cond (p y) (some y) none) l x m in go y (p y) refl a e
      where
        go : (y : A) (b : Bool) → p y ≡ b → Memᴰ y l → cond b (some y) none ≡ some x → Memᴰ x l × (p x ≡ true)
        go y true h a e = rw (← some_inj e) (a, h)
        go y false h a e = none_some e

    pub mem_keep : (l : List A) (x : A) → Memᴰ x l → p x ≡ true → Memᴰ x (keep p l)
    unfolding keep
    mem_keep l x m h = mem_pick (λ y. cond (p y) (some y) none) l x x m (rw h)

    keep_pairs : (R : A → A → Type 0) (l : List A) → Pairs R l → Pairs R (keep p l)
    unfolding keep
    keep_pairs R l h = Pairs-pick (λ y. cond (p y) (some y) none) R R (λ x y x' y' e e' r. rw (← is x y e, ← is x' y' e') r) l h
      where
        is : (x y : A) → cond (p x) (some x) none ≡ some y → x ≡ y
        is x y e = go (p x) e
          where
            go : (b : Bool) → cond b (some x) none ≡ some y → x ≡ y
            go true e = some_inj e
            go false e = none_some e

-- where places rise, a place tells its element
pub place_tells : {A : Type 0} (l : List (ℕ × A)) (q r : ℕ × A) → Rising l → Memᴰ q l → Memᴰ r l → q.0 ≡ r.0 → q ≡ r
place_tells [] q r h m n e = absurd (Memᴰ.not-nil m)
place_tells (x ∷ l) q r h m n e = go (Memᴰ.cases_cons m) (Memᴰ.cases_cons n) (λ m n. place_tells l q r h.1 m n e)
  where
    go : (q ≡ x) ⊎ Memᴰ q l → (r ≡ x) ⊎ Memᴰ r l → (Memᴰ q l → Memᴰ r l → q ≡ r) → q ≡ r
    go (inl a) (inl b) k = a ∙ sym b
    go (inl a) (inr b) k = absurd (omega (arith, e, ap (λ z. z.0) a, All-mem (λ z. x.0 < z.0) l r h.0 b))
    go (inr a) (inl b) k = absurd (omega (arith, e, ap (λ z. z.0) b, All-mem (λ z. x.0 < z.0) l q h.0 a))
    go (inr a) (inr b) k = k a b

-- ── The innermost ───────────────────────────────────────────────────────────────────────────────────────────

module _ (T : Table) where
  innermost_none : (l : List (ℕ × Change)) → innermost T l ≡ none → l ≡ []
  unfolding innermost
  innermost_none [] e = refl
  innermost_none (r ∷ l) e = go (innermost T l) e
    where
      pair : (s : ℕ × Change) (b : Bool) → ◌≡◌ {A = Option (ℕ × Change)} (cond b (some r) (some s)) none → ◌≡◌ {A = List (ℕ × Change)} (r ∷ l) []
      pair s true e = none_some (sym e)
      pair s false e = none_some (sym e)

      go : (o : Option (ℕ × Change)) → ◌≡◌ {A = Option (ℕ × Change)} (elim o as (λ o. Option (ℕ × Change)) [ none ↦ some r | some s ↦ cond (ltb (region_depth T s.1) (region_depth T r.1)) (some r) (some s) ]) none
          → ◌≡◌ {A = List (ℕ × Change)} (r ∷ l) []
      go none e = none_some (sym e)
      go (some s) e = pair s (ltb (region_depth T s.1) (region_depth T r.1)) e

  outer_trans : (x s r : ℕ × Change) → Outer T x s → region_depth T s.1 < region_depth T r.1 → Outer T x r
  outer_trans x s r (inl a) h = inl (omega arith)
  outer_trans x s r (inr a) h = inl (omega (arith, a.0))

  innermost_some : (l : List (ℕ × Change)) (r : ℕ × Change) → Rising l → innermost T l ≡ some r → Memᴰ r l × All (λ s. Outer T s r) l
  unfolding innermost
  innermost_some [] r h e = none_some e
  innermost_some (x ∷ l) r h e = go (innermost T l) refl e (λ s k. innermost_some l s h.1 k)
    where
      pair : (s : ℕ × Change) (b : Bool) → ltb (region_depth T s.1) (region_depth T x.1) ≡ b → ◌≡◌ {A = Option (ℕ × Change)} (cond b (some x) (some s)) (some r) → Memᴰ s l × All (λ z. Outer T z s) l
          → Memᴰ r (x ∷ l) × All (λ z. Outer T z r) (x ∷ l)
      pair s true d e k =
          subst (λ r. Memᴰ r (x ∷ l) × All (λ z. Outer T z r) (x ∷ l)) (some_inj e) (Memᴰ.head refl, (inr (refl, omega arith), All-map (λ z o. outer_trans z s x o (ltb-true (region_depth T s.1) (region_depth T x.1) d)) l k.1))
      pair s false d e k =
          subst (λ r. Memᴰ r (x ∷ l) × All (λ z. Outer T z r) (x ∷ l)) (some_inj e) (Memᴰ.tail k.0, (first (ltb-false (region_depth T s.1) (region_depth T x.1) d) (All-mem (λ z. x.0 < z.0) l s h.0 k.0), k.1))
        where
          first : region_depth T x.1 ≤ region_depth T s.1 → x.0 < s.0 → Outer T x s
          first a b = go (bool? (ltb (region_depth T x.1) (region_depth T s.1)))
            where
              go : (ltb (region_depth T x.1) (region_depth T s.1) ≡ true) ⊎ (ltb (region_depth T x.1) (region_depth T s.1) ≡ false) → Outer T x s
              go (inl c) = inl (ltb-true (region_depth T x.1) (region_depth T s.1) c)
              go (inr c) = inr (omega (arith, ltb-false (region_depth T x.1) (region_depth T s.1) c), omega arith)

      go : (o : Option (ℕ × Change)) → innermost T l ≡ o
          → elim o as (λ o. Option (ℕ × Change)) [ none ↦ some x | some s ↦ cond (ltb (region_depth T s.1) (region_depth T x.1)) (some x) (some s) ] ≡ some r
          → ((s : ℕ × Change) → innermost T l ≡ some s → Memᴰ s l × All (λ z. Outer T z s) l) → Memᴰ r (x ∷ l) × All (λ z. Outer T z r) (x ∷ l)
      go none z e k = rw (← some_inj e, innermost_none l z) (Memᴰ.head refl, (inr (refl, omega arith), tt))
      go (some s) z e k = pair s (ltb (region_depth T s.1) (region_depth T x.1)) refl e (k s z)

  module _ (all : List (ℕ × Change)) (h : Rising all) (c : ℕ × Change) where
    pub region_some : (r : ℕ × Change) → region_of T all c ≡ some r → Innermost T all c r
    unfolding region_of
    region_some r e =
        let (a, b) = innermost_some (keep (λ r. takes T r c) all) r (keep_pairs (λ r. takes T r c) _ all h) e in
        let (m, t) = keep_mem (λ r. takes T r c) all r a in
        record { one = m; belongs = t; outer = λ s n u. All-mem (λ s. Outer T s r) (keep (λ r. takes T r c) all) s b (mem_keep (λ r. takes T r c) all s n u) }

    pub region_none : region_of T all c ≡ none → All (λ r. takes T r c ≡ false) all
    unfolding region_of
    region_none e = mem_All _ all (λ r m. go r m (bool? (takes T r c)))
      where
        go : (r : ℕ × Change) → Memᴰ r all → (takes T r c ≡ true) ⊎ (takes T r c ≡ false) → takes T r c ≡ false
        go r m (inl t) = absurd (Memᴰ.not-nil (rw (innermost_none (keep (λ r. takes T r c) all) e) at (mem_keep (λ r. takes T r c) all r m t)))
        go r m (inr t) = t

    -- there is no other
    pub innermost_one : (r s : ℕ × Change) → Innermost T all c r → Innermost T all c s → r ≡ s
    innermost_one r s x y = place_tells all r s h x.one y.one (go (x.outer s y.one y.belongs) (y.outer r x.one x.belongs))
      where
        go : Outer T s r → Outer T r s → r.0 ≡ s.0
        go (inl a) (inl b) = absurd (omega arith)
        go (inl a) (inr b) = absurd (omega (arith, b.0))
        go (inr a) (inl b) = absurd (omega (arith, a.0))
        go (inr a) (inr b) = omega (arith, a.1, b.1)

    -- so these two say all: the region of a change is the innermost that takes it, and it has none just where none takes it
    pub region_innermost : (r : ℕ × Change) → (region_of T all c ≡ some r) ↔ Innermost T all c r
    region_innermost r = (region_some r, λ x. go x (region_of T all c) refl)
      where
        go : Innermost T all c r → (o : Option (ℕ × Change)) → region_of T all c ≡ o → o ≡ some r
        go x none e = bool_absurd x.belongs (All-mem (λ r. takes T r c ≡ false) all r (region_none e) x.one)
        go x (some s) e = ap {B = Option (ℕ × Change)} some (innermost_one s r (region_some s e) x)

    pub region_nowhere : (region_of T all c ≡ none) ↔ All (λ r. takes T r c ≡ false) all
    region_nowhere = (region_none, λ x. go x (region_of T all c) refl)
      where
        go : All (λ r. takes T r c ≡ false) all → (o : Option (ℕ × Change)) → region_of T all c ≡ o → o ≡ none
        go x none e = refl
        go x (some s) e = let k = region_some s e in bool_absurd k.belongs (All-mem (λ r. takes T r c ≡ false) all s x k.one)
