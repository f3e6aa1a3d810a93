-- What the laws of withdrawal ask of lists: tests, the first that passes.
-- Assumes nothing.
use Rattle.std.specs.Prelude.{◌≡◌, Bool, ◌⊎◌}
use Rattle.std.proofs.Math.Path.{refl}
use Rattle.std.proofs.Common.{sym, subst}
use Rattle.std.proofs.Math.Bool.{true, false, cond}
use Rattle.std.proofs.Math.Logic.{inl, inr}
use Rattle.std.proofs.Math.Option.{none, some}
use mathlib.Core.List.Memᴰ
use mathlib.Core.List.{List, [], ◌∷◌, Memᴰ}
use Rattle.orders.specs.Lists.{pick, All, Pairs}
use Rattle.orders.specs.ListLaws.{bool_absurd, some_inj, none_some, All-map}
use Rattle.definition.specs.Basics.{keep, first}
use Rattle.definition_laws.specs.Basics.{keep_yes, keep_no}

-- ── The first that passes a test ────────────────────────────────────────────────────────────────────────────

module _ {A : Type 0} (p : A → Bool) where
  -- what is kept by a test passes it
  pub keep_passes : (l : List A) → All (λ x. p x ≡ true) (keep p l)
  unfolding keep pick
  keep_passes [] = tt
  keep_passes (x ∷ l) = go (p x) refl (keep_passes l)
    where
      go : (b : Bool) → p x ≡ b → All (λ x. p x ≡ true) (keep p l) → All (λ x. p x ≡ true) (keep p (x ∷ l))
      go true e r = rw (keep_yes p x l e) (e, r)
      go false e r = rw (keep_no p x l e) r

  -- if there is none, none passes; and the other way round
  pub first_none : (l : List A) → first p l ≡ none → All (λ x. p x ≡ false) l
  unfolding first
  first_none [] e = tt
  first_none (x ∷ l) e = go (p x) refl e (first_none l)
    where
      go : (b : Bool) → p x ≡ b → cond b (some x) (first p l) ≡ none → (first p l ≡ none → All (λ x. p x ≡ false) l) → (p x ≡ false) × All (λ x. p x ≡ false) l
      go true h q k = none_some (sym q)
      go false h q k = (h, k q)

  pub none_first : (l : List A) → All (λ x. p x ≡ false) l → first p l ≡ none
  unfolding first
  none_first [] h = refl
  none_first (x ∷ l) h = rw h.0 (none_first l h.1)

  -- it is one of them
  pub first_mem : (l : List A) (x : A) → first p l ≡ some x → Memᴰ x l
  unfolding first
  first_mem [] x e = none_some e
  first_mem (y ∷ l) x e = go (p y) refl e (first_mem l x)
    where
      go : (b : Bool) → p y ≡ b → cond b (some y) (first p l) ≡ some x → (first p l ≡ some x → Memᴰ x l) → Memᴰ x (y ∷ l)
      go true h q k = Memᴰ.head (sym (some_inj q))
      go false h q k = Memᴰ.tail (k q)

  -- every other that passes stands behind it
  pub first_before : (R : A → A → Type 0) (l : List A) (x : A) → Pairs R l → first p l ≡ some x → All (λ y. p y ≡ true → (y ≡ x) ⊎ R x y) l
  unfolding first
  first_before R [] x h e = tt
  first_before R (y ∷ l) x h e = go (p y) refl e (first_before R l x h.1)
    where
      go : (b : Bool) → p y ≡ b → cond b (some y) (first p l) ≡ some x → (first p l ≡ some x → All (λ y. p y ≡ true → (y ≡ x) ⊎ R x y) l) → All (λ y. p y ≡ true → (y ≡ x) ⊎ R x y) (y ∷ l)
      go true b q k = let z = some_inj q in ((λ i. inl z), subst (λ w. All (λ v. p v ≡ true → (v ≡ w) ⊎ R w v) l) z (All-map (λ u r i. inr r) l h.0))
      go false b q k = ((λ i. bool_absurd i b), k q)
