-- The work slices that the public calls are lent, in the order of docs/WORK.md.
-- Assumes nothing.
use Rattle.std.specs.Prelude.{◌≡◌, refl, false, ℕ, ◌≤◌, length, replicate, ltb}
use mathlib.Core.List.{List, [], ◌∷◌, map, zip, zip_with}
use Rattle.orders.specs.ListLaws.{either_false}
use Rattle.std.proofs.Common.{ltb-false}
use Rattle.definition.specs.Basics.{any}
use Rattle.definition.specs.Answers.{too_short}

-- "its length in docs/": table, source, changes, notes, incoming, changed, marks, rows, prepared
unfoldable pub needed : List ℕ
needed = 16384 ∷ 6147 ∷ 3840 ∷ 3072 ∷ 3072 ∷ 1024 ∷ 2048 ∷ 12291 ∷ 12288 ∷ []

-- each slice as its length and the length that it needs
unfoldable pub lengths : List ℕ → List (List ℕ) → List (ℕ × ℕ)
lengths needs work = zip (map length work) needs

-- as many zeros
unfoldable pub zeros : List ℕ → List ℕ
zeros s = replicate (length s) 0

-- "Work slices end as zeros."
unfoldable pub zeroed : List (List ℕ) → List (List ℕ)
zeroed work = map zeros work

-- slices of the lengths that they need, each word of which is this one
unfoldable pub filled : ℕ → List (List ℕ)
filled word = map (λ n. replicate n word) needed

-- a slice and the length that it needs
abbrev pub asked : List ℕ → ℕ → ℕ × ℕ
asked s n = (length s, n)

-- ── Long enough ─────────────────────────────────────────────────────────────────────────────────────────────

-- none of the first lengths is too short, nor any of the others
short_first : (n m : ℕ) (l : List (ℕ × ℕ)) → too_short ((n, m) ∷ l) ≡ false → (m ≤ n) × (too_short l ≡ false)
unfolding too_short any
short_first n m l e = let h = either_false (ltb n m) (any (λ s. ltb s.0 s.1) l) e in (ltb-false n m h.0, h.1)

-- each work slice has the length that it needs
module _ (a b c d e f g h i : List ℕ) where
  pub long_enough : too_short (lengths needed (a ∷ b ∷ c ∷ d ∷ e ∷ f ∷ g ∷ h ∷ i ∷ [])) ≡ false
      → ((16384 ≤ length a) × (6147 ≤ length b) × (3840 ≤ length c))
      × ((2048 ≤ length g) × (3072 ≤ length d) × (3072 ≤ length e) × (1024 ≤ length f) × (12291 ≤ length h) × (12288 ≤ length i))
  unfolding lengths needed zip zip_with
  long_enough q =
      let (a₁, q) = short_first _ _ _ q in
      let (b₁, q) = short_first _ _ _ q in
      let (c₁, q) = short_first _ _ _ q in
      let (d₁, q) = short_first _ _ _ q in
      let (e₁, q) = short_first _ _ _ q in
      let (f₁, q) = short_first _ _ _ q in
      let (g₁, q) = short_first _ _ _ q in
      let (h₁, q) = short_first _ _ _ q in
      let (i₁, q) = short_first _ _ _ q in
      ((a₁, b₁, c₁), (g₁, d₁, e₁, f₁, h₁, i₁))

-- slices of the lengths of docs/WORK.md are long enough
pub lengths_suffice : (a b c d e f g h i : List ℕ) → 16384 ≡ length a → 6147 ≡ length b → 3840 ≡ length c → 3072 ≡ length d → 3072 ≡ length e → 1024 ≡ length f → 2048 ≡ length g
    → 12291 ≡ length h → 12288 ≡ length i → too_short (lengths needed (a ∷ b ∷ c ∷ d ∷ e ∷ f ∷ g ∷ h ∷ i ∷ [])) ≡ false
unfolding too_short lengths needed zip any
lengths_suffice a b c d e f g h i p₁ p₂ p₃ p₄ p₅ p₆ p₇ p₈ p₉ = rw (← p₁, ← p₂, ← p₃, ← p₄, ← p₅, ← p₆, ← p₇, ← p₈, ← p₉)

-- and so are those of just these lengths that hold one word
pub filled_suffice : (word : ℕ) → too_short (lengths needed (filled word)) ≡ false
unfolding too_short lengths needed filled zip any
filled_suffice word = refl
