-- Of two splices in one parent that do not overlap, just one is left of the other; and what the paper says of that.
-- Assumes nothing.
use Rattle.std.specs.Prelude.{◌≡◌, ◌≢◌, ◌⊎◌, ◌↔◌, ℕ, ◌≤◌, ◌<◌, leb, ltb}
use Rattle.std.proofs.Math.Bool.{true, false, or-true}
use Rattle.std.proofs.Math.Logic.{inl, inr}
use Rattle.std.proofs.Common.{arith}
use borrow.Author.Tests.{leb-true, ltb-true, le-leb, lt-ltb, le-ltb}
use Rattle.orders.specs.Splices.{Splice, left_of, Overlap}
use Rattle.orders.specs.ListLaws.{lt_or_le, both_true, either_true, bool?}

module _ {A : Type 0} where
  -- a run does not end before it starts
  abbrev pub Ordered : Splice A → Type 0
  Ordered s = s.from ≤ s.to

  pub left_le : (s t : Splice A) → left_of s t ≡ true → s.to ≤ t.from
  unfolding left_of
  left_le s t e = leb-true _ _ (both_true (leb s.to t.from) _ e).0

  pub left_why : (s t : Splice A) → left_of s t ≡ true → (s.from < t.to) ⊎ (t.number < s.number)
  unfolding left_of
  left_why s t e = go (either_true (ltb s.from t.to) _ (both_true (leb s.to t.from) _ e).1)
    where
      go : (ltb s.from t.to ≡ true) ⊎ (ltb t.number s.number ≡ true) → (s.from < t.to) ⊎ (t.number < s.number)
      go (inl x) = inl (ltb-true _ _ x)
      go (inr x) = inr (ltb-true _ _ x)

  pub left_if : (s t : Splice A) → s.to ≤ t.from → (s.from < t.to) ⊎ (t.number < s.number) → left_of s t ≡ true
  unfolding left_of
  left_if s t h (inl k) = rw (le-leb _ _ h, lt-ltb _ _ k)
  left_if s t h (inr k) = rw (le-leb _ _ h, lt-ltb _ _ k) (or-true (ltb s.from t.to))

  pub left_trans : (s t u : Splice A) → Ordered s → Ordered t → Ordered u → left_of s t ≡ true → left_of t u ≡ true → left_of s u ≡ true
  left_trans s t u hs ht hu p q = left_if s u (omega (arith, left_le s t p, left_le t u q)) (go (left_why s t p) (left_why t u q))
    where
      go : (s.from < t.to) ⊎ (t.number < s.number) → (t.from < u.to) ⊎ (u.number < t.number) → (s.from < u.to) ⊎ (u.number < s.number)
      go (inl x) y = inl (omega (arith, left_le t u q))
      go (inr x) (inl y) = inl (omega (arith, left_le s t p))
      go (inr x) (inr y) = inr (omega arith)

  pub left_asym : (s t : Splice A) → Ordered s → Ordered t → left_of s t ≡ true → left_of t s ≡ false
  left_asym s t hs ht p = go (bool? (left_of t s))
    where
      clash : left_of t s ≡ true → (s.from < t.to) ⊎ (t.number < s.number) → (t.from < s.to) ⊎ (s.number < t.number) → ⊥
      clash q (inl x) y = omega (arith, left_le t s q)
      clash q (inr x) (inl y) = omega (arith, left_le s t p)
      clash q (inr x) (inr y) = omega arith

      go : (left_of t s ≡ true) ⊎ (left_of t s ≡ false) → left_of t s ≡ false
      go (inl q) = absurd (clash q (left_why s t p) (left_why t s q))
      go (inr q) = q

  -- just one of the two is left of the other
  pub data OneLeft (s t : Splice A) : Type 0 where
    first : left_of s t ≡ true → left_of t s ≡ false → OneLeft s t
    second : left_of t s ≡ true → left_of s t ≡ false → OneLeft s t

  pub one_left : (s t : Splice A) → Ordered s → Ordered t → s.number ≢ t.number → ¬ Overlap s t → OneLeft s t
  one_left s t hs ht ne clear = go (lt_or_le s.from t.to) (lt_or_le t.from s.to) (lt_or_le t.number s.number)
    where
      one : left_of s t ≡ true → OneLeft s t
      one e = first e (left_asym s t hs ht e)

      two : left_of t s ≡ true → OneLeft s t
      two e = second e (left_asym t s ht hs e)

      go : (s.from < t.to) ⊎ (t.to ≤ s.from) → (t.from < s.to) ⊎ (s.to ≤ t.from) → (t.number < s.number) ⊎ (s.number ≤ t.number) → OneLeft s t
      go (inl h) (inl k) z = absurd (clear (h, k))
      go (inl h) (inr k) z = one (left_if s t k (inl h))
      go (inr h) (inl k) z = two (left_if t s h (inl k))
      go (inr h) (inr k) (inl z) = one (left_if s t k (inr z))
      go (inr h) (inr k) (inr z) = two (left_if t s h (inr (omega arith)))

  pub one_left_sym : (s t : Splice A) → OneLeft s t → OneLeft t s
  one_left_sym s t (first p q) = second p q
  one_left_sym s t (second p q) = first p q

-- ── What the paper says ─────────────────────────────────────────────────────────────────────────────────────

-- s has an empty run, at p
module _ {A : Type 0} (s t : Splice A) (p : ℕ) (a : s.from ≡ p) (b : s.to ≡ p) where
  -- "Of two empty runs at one place the higher number is left"
  pub left_empty : t.from ≡ p → t.to ≡ p → left_of s t ≡ ltb t.number s.number
  unfolding left_of
  left_empty c d = rw (le-leb s.to t.from (omega arith), le-ltb s.from t.to (omega arith))

  -- "an empty run is left of a run that starts there"
  pub left_of_start : t.from ≡ p → p < t.to → left_of s t ≡ true
  left_of_start c d = left_if s t (omega arith) (inl (omega arith))

  -- "right of one that ends there"
  pub right_of_end : t.from < p → t.to ≡ p → left_of t s ≡ true
  right_of_end c d = left_if t s (omega arith) (inl (omega arith))

  -- "and overlaps one it is strictly inside", and no other
  pub overlaps_around : Overlap s t ↔ ((t.from < p) × (p < t.to))
  overlaps_around = (λ h. (omega (arith, h.1), omega (arith, h.0)), λ h. (omega (arith, h.1), omega (arith, h.0)))

-- two runs that are not empty overlap just where they share a child
pub overlap_shares : {A : Type 0} (s t : Splice A) → s.from < s.to → t.from < t.to
    → Overlap s t ↔ ((i : ℕ) × (s.from ≤ i) × (i < s.to) × (t.from ≤ i) × (i < t.to))
overlap_shares s t a b = (go (lt_or_le s.from t.from), λ h. (omega (arith, h.1, h.4), omega (arith, h.2, h.3)))
  where
    go : (s.from < t.from) ⊎ (t.from ≤ s.from) → Overlap s t → (i : ℕ) × (s.from ≤ i) × (i < s.to) × (t.from ≤ i) × (i < t.to)
    go (inl x) h = (t.from, omega arith, h.1, omega arith, b)
    go (inr x) h = (s.from, omega arith, a, x, h.0)
