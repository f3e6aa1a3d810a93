-- The slots of lent bookmarks from a number on, and what is read of each.
-- Assumes nothing.
use Rattle.std.specs.Prelude.{◌≡◌, refl, List, [], ◌∷◌, map, take}
use Rattle.std.proofs.Common.{get_or-take, sym, ◌∙◌, get_or-drop}
use Rattle.std.proofs.Math.Path.{ap}
use Prim.Native.Nat.{ℕ, zero, suc, ◌+◌, ◌-◌, ◌*◌, ◌^◌, ◌≤◌, ◌<◌}
use native.Mathlib.Omega.{arith}
use Rattle.std.proofs.Math.ListN.{get_or, drop}
use Rattle.std.proofs.Math.Seq.{drop-drop}
use Rattle.series_laws.specs.Lent.{slot_words, longest_path, slots}

-- slot i
unfoldable pub slot_at : List ℕ → ℕ → List ℕ
slot_at b i = take slot_words (drop (1 + slot_words * i) b)

-- those from i on, of k
unfoldable pub slots_from : List ℕ → ℕ → ℕ → List (List ℕ)
slots_from b k i = slots (k - i) (drop (1 + slot_words * i) b)

-- their numbers
unfoldable pub numbers_from : List ℕ → ℕ → ℕ → List ℕ
numbers_from b k i = map (λ s. get_or s 0 0) (slots_from b k i)

module _ (b : List ℕ) (k : ℕ) where
  pub slots_all : slots_from b k 0 ≡ slots k (drop 1 b)
  unfolding slots_from
  slots_all = let e : k - 0 ≡ k = omega arith in rw e

  pub slots_none : (i : ℕ) → k ≤ i → slots_from b k i ≡ []
  unfolding slots_from slots
  slots_none i h = let e : k - i ≡ 0 = omega arith in rw e

  pub slots_more : (i : ℕ) → i < k → slots_from b k i ≡ slot_at b i ∷ slots_from b k (i + 1)
  unfolding slots_from slots slot_at
  slots_more i h =
      let e : k - i ≡ suc (k - (i + 1)) = omega arith in
      let f : 1 + slot_words * i + slot_words ≡ 1 + slot_words * (i + 1) = omega arith in
      rw (e, drop-drop slot_words (1 + slot_words * i) b, f)

-- ── One slot ────────────────────────────────────────────────────────────────────────────────────────────────

take-take : (m n : ℕ) (l : List ℕ) → m ≤ n → take m (take n l) ≡ take m l
take-take zero n l h = refl
take-take (suc m) zero l h = absurd (omega arith)
take-take (suc m) (suc n) [] h = refl
take-take (suc m) (suc n) (x ∷ l) h = ap {B = List ℕ} (λ (y : List ℕ). x ∷ y) (take-take m n l (omega arith))

drop_take : (m n : ℕ) (l : List ℕ) → drop m (take (m + n) l) ≡ take n (drop m l)
drop_take zero n l = let e : 0 + n ≡ n = omega arith in rw e
drop_take (suc m) n [] = let e : suc m + n ≡ suc (m + n) = omega arith in rw e (sym (none n))
  where
    none : (n : ℕ) → ◌≡◌ {A = List ℕ} (take n []) []
    none zero = refl
    none (suc n) = refl
drop_take (suc m) n (x ∷ l) = let e : suc m + n ≡ suc (m + n) = omega arith in rw e (drop_take m n l)

module _ (b : List ℕ) (i : ℕ) where
  -- its number and the length of its path
  pub slot_word : (j at : ℕ) → j < slot_words → at ≡ 1 + slot_words * i + j → get_or (slot_at b i) j 0 ≡ get_or b at 0
  unfolding slot_at
  slot_word j at h e = get_or-take slot_words (drop (1 + slot_words * i) b) j 0 h ∙ (get_or-drop (1 + slot_words * i) b j 0 ∙ ap (λ (a : ℕ). get_or b a 0) (sym e))

  -- its path
  pub slot_path : (n at : ℕ) → n ≤ longest_path → at ≡ 1 + slot_words * i + 2 → take n (drop 2 (slot_at b i)) ≡ take n (drop at b)
  unfolding slot_at
  slot_path n at h e =
      ap (take n) (drop_take 2 longest_path (drop (1 + slot_words * i) b))
      ∙ (take-take n longest_path (drop 2 (drop (1 + slot_words * i) b)) h ∙ ap (take n) (drop-drop 2 (1 + slot_words * i) b ∙ ap (λ (a : ℕ). drop a b) (sym e)))

  -- the number, from where the slot begins
  pub number_told : {at r : ℕ} → at ≡ 1 + 65 * i → (r ≡ get_or b at 0) × (r < 2 ^ 32) → (r ≡ get_or (slot_at b i) 0 0) × (r < 2 ^ 32)
  number_told {at} {r} e h = (h.0 ∙ sym (slot_word 0 at (omega arith) (omega arith)), h.1)
