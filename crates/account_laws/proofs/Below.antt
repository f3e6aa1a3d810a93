-- Laws on numbers below another that pass a test.
-- Assumes nothing.
use Rattle.std.specs.Prelude.{◌≡◌, Bool, false, ◌⊎◌}
use Rattle.std.proofs.Math.Path.{refl}
use Rattle.std.proofs.Common.{sym, ap, ◌∙◌, inl, inr, arith}
use Rattle.std.proofs.Math.Bool.{true}
use Rattle.std.proofs.Math.Option.{Option, none, some}
use Prim.Native.Nat.{ℕ, zero, suc, ◌≤◌, ◌<◌}
use Rattle.orders.specs.ListLaws.{both_true, some_inj, none_some, lt_or_le}
use Rattle.account_laws.specs.Words.{last_below, every_below}

-- a number below suc n is below n, or n
pub below_suc : (m n : ℕ) → m < suc n → (m < n) ⊎ (m ≡ n)
below_suc m n h = go (lt_or_le m n)
  where
    go : (m < n) ⊎ (n ≤ m) → (m < n) ⊎ (m ≡ n)
    go (inl k) = inl k
    go (inr k) = inr (omega arith)

module _ (p : ℕ → Bool) where
  pub last_yes : (n : ℕ) → p n ≡ true → last_below (suc n) p ≡ some n
  unfolding last_below
  last_yes n e = rw e

  pub last_no : (n : ℕ) → p n ≡ false → last_below (suc n) p ≡ last_below n p
  unfolding last_below
  last_no n e = rw e

  -- k is the last number below n that passes
  pub record Last (n k : ℕ) : Type 0 where
    pub below : k < n
    pub passes : p k ≡ true
    pub later : (m : ℕ) → k < m → m < n → p m ≡ false

  pub last_none : (n : ℕ) → last_below n p ≡ none → (m : ℕ) → m < n → p m ≡ false
  last_none zero e m h = absurd (omega arith)
  last_none (suc n) e m h = go (p n) refl (below_suc m n h) (λ q k. last_none n q m k)
    where
      go : (b : Bool) → p n ≡ b → (m < n) ⊎ (m ≡ n) → (last_below n p ≡ none → m < n → p m ≡ false) → p m ≡ false
      go true q s r = none_some (sym e ∙ last_yes n q)
      go false q (inl k) r = r (sym (last_no n q) ∙ e) k
      go false q (inr k) r = rw k q

  pub last_some : (n k : ℕ) → last_below n p ≡ some k → Last n k
  unfolding last_below
  last_some zero k e = none_some e
  last_some (suc n) k e = go (p n) refl (last_some n k)
    where
      here : p n ≡ true → n ≡ k → Last (suc n) k
      here q s = rw (← s) (record { below = omega arith; passes = q; later = λ m a b. absurd (omega arith) })

      go : (b : Bool) → p n ≡ b → (last_below n p ≡ some k → Last n k) → Last (suc n) k
      go true q r = here q (some_inj (sym (last_yes n q) ∙ e))
      go false q r =
          let l = r (sym (last_no n q) ∙ e) in
          record { below = omega (arith, l.below); passes = l.passes; later = λ m a b. next l m a (below_suc m n b) }
        where
          next : Last n k → (m : ℕ) → k < m → (m < n) ⊎ (m ≡ n) → p m ≡ false
          next l m a (inl b) = l.later m a b
          next l m a (inr b) = rw b q

  pub some_last : (n k : ℕ) → Last n k → last_below n p ≡ some k
  some_last zero k l = absurd (omega (arith, l.below))
  some_last (suc n) k l = go (below_suc k n l.below) (some_last n k)
    where
      go : (k < n) ⊎ (k ≡ n) → (Last n k → last_below n p ≡ some k) → last_below (suc n) p ≡ some k
      go (inl h) r = last_no n (l.later n h (omega arith)) ∙ r (record { below = h; passes = l.passes; later = λ m a b. l.later m a (omega arith) })
      go (inr h) r = let e : p n ≡ true = ap p (sym h) ∙ l.passes in last_yes n e ∙ ap {B = Option ℕ} some (sym h)

  pub every_passes : (n : ℕ) → every_below n p ≡ true → (m : ℕ) → m < n → p m ≡ true
  unfolding every_below
  every_passes zero e m h = absurd (omega arith)
  every_passes (suc n) e m h = let b = both_true (p n) (every_below n p) e in go (below_suc m n h) b.0 (every_passes n b.1 m)
    where
      go : (m < n) ⊎ (m ≡ n) → p n ≡ true → (m < n → p m ≡ true) → p m ≡ true
      go (inl k) q r = r k
      go (inr k) q r = rw k q

  pub passes_every : (n : ℕ) → ((m : ℕ) → m < n → p m ≡ true) → every_below n p ≡ true
  unfolding every_below
  passes_every zero h = refl
  passes_every (suc n) h = rw (h n (omega arith), passes_every n (λ m k. h m (omega arith)))

-- tests that agree below n
pub last_same : (n : ℕ) (p q : ℕ → Bool) → ((k : ℕ) → k < n → p k ≡ q k) → last_below n p ≡ last_below n q
unfolding last_below
last_same zero p q h = refl
last_same (suc n) p q h = rw (h n (omega arith), last_same n p q (λ k b. h k (omega arith)))
