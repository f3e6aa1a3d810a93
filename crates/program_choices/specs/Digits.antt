-- The number of an argument, by the tests that led there; and which arguments are refused.
-- Assumes nothing.
use Rattle.std.specs.Prelude.{◌⊎◌, List, [], ◌∷◌, ◌≡◌, refl, ℕ, zero, suc, ◌-◌, ◌≤◌, ◌<◌, length, get_or}
use Rattle.std.proofs.Common.{inl, inr, arith, lt-ltb, le-ltb}
use Rattle.orders.specs.ListLaws.{lt_or_le}
use Rattle.definition.specs.Basics.{refused, ◌>>=◌, refuse}
use Rattle.definition.specs.Choices.{no_choice, by_default, digit, given, chosen}
use Rattle.program_choices.specs.Given.{arguments}

-- ── Each answer ─────────────────────────────────────────────────────────────────────────────────────────────

-- not one byte
pub digit_long : (a : List ℕ) → (length a ≡ 1 → ⊥) → no_choice ≡ digit a
unfolding digit
digit_long [] h = refl
digit_long (b ∷ []) h = absurd (h refl)
digit_long (b ∷ c ∷ a) h = refl

-- the first byte below '0'
pub digit_low : (a : List ℕ) → get_or a 0 0 < 48 → no_choice ≡ digit a
unfolding digit
digit_low [] l = refl
digit_low (b ∷ []) l = rw (lt-ltb b 48 l) refl
digit_low (b ∷ c ∷ a) l = refl

-- the first byte above '9'
pub digit_high : (a : List ℕ) → 57 < get_or a 0 0 → no_choice ≡ digit a
unfolding digit
digit_high [] l = refl
digit_high (b ∷ []) l = rw (le-ltb b 48 (omega arith), lt-ltb 57 b l) refl
digit_high (b ∷ c ∷ a) l = refl

-- one byte, a digit
pub digit_value : (a : List ℕ) → length a ≡ 1 → 48 ≤ get_or a 0 0 → get_or a 0 0 ≤ 57 → get_or a 0 0 - 48 ≡ digit a
unfolding digit
digit_value [] h l m = omega arith
digit_value (b ∷ []) h l m = rw (le-ltb b 48 l, le-ltb 57 b m) refl
digit_value (b ∷ c ∷ a) h l m = omega arith

-- no argument
pub none_given : (count : ℕ) (first second : List ℕ) → count < 2 → record { edge = 0; stronger = 0 } ≡ given (arguments count first second)
unfolding given by_default
none_given zero first second h = refl
none_given (suc zero) first second h = refl
none_given (suc (suc n)) first second h = absurd (omega arith)

-- a first argument
pub first_given : (count : ℕ) (first second : List ℕ) (r : ℕ) → 2 ≤ count → count < 3 → r ≡ digit first → record { edge = r; stronger = 0 } ≡ given (arguments count first second)
unfolding given
first_given zero first second r h k e = absurd (omega arith)
first_given (suc zero) first second r h k e = absurd (omega arith)
first_given (suc (suc zero)) first second r h k e = rw e refl
first_given (suc (suc (suc n))) first second r h k e = absurd (omega arith)

-- a second one too
pub both_given : (count : ℕ) (first second : List ℕ) (r s : ℕ) → 3 ≤ count → r ≡ digit first → s ≡ digit second → record { edge = r; stronger = s } ≡ given (arguments count first second)
unfolding given
both_given zero first second r s h e f = absurd (omega arith)
both_given (suc zero) first second r s h e f = absurd (omega arith)
both_given (suc (suc zero)) first second r s h e f = absurd (omega arith)
both_given (suc (suc (suc n))) first second r s h e f = let z : suc (suc (suc n)) - 1 ≡ suc (suc n) = omega arith in rw (z, e, f) refl

-- ── Refused ─────────────────────────────────────────────────────────────────────────────────────────────────

-- neither `0` nor `1` is no choice
no_choice_lem : (a : List ℕ) → (a ≡ 48 ∷ [] → ⊥) → (a ≡ 49 ∷ [] → ⊥) → 1 < digit a
no_choice_lem = above
  where
    byte : (b : ℕ) → (b ∷ [] ≡ 48 ∷ [] → ⊥) → (b ∷ [] ≡ 49 ∷ [] → ⊥) → (b < 48) ⊎ (48 ≤ b) → (57 < b) ⊎ (b ≤ 57) → 1 < digit (b ∷ [])
    byte b z o (inl l) s = omega (arith, digit_low (b ∷ []) l)
    byte b z o (inr l) (inl m) = omega (arith, digit_high (b ∷ []) m)
    byte b z o (inr l) (inr m) = two (lt_or_le b 50) (lt_or_le b 49)
      where
        two : (b < 50) ⊎ (50 ≤ b) → (b < 49) ⊎ (49 ≤ b) → 1 < digit (b ∷ [])
        two (inl h) (inl i) = absurd (z (let e : b ≡ 48 = omega arith in rw e refl))
        two (inl h) (inr i) = absurd (o (let e : b ≡ 49 = omega arith in rw e refl))
        two (inr h) i = omega (arith, digit_value (b ∷ []) refl l m)

    above : (a : List ℕ) → (a ≡ 48 ∷ [] → ⊥) → (a ≡ 49 ∷ [] → ⊥) → 1 < digit a
    above [] z o = omega (arith, digit_long [] (λ e. omega arith))
    above (b ∷ []) z o = byte b z o (lt_or_le b 48) (lt_or_le 57 b)
    above (b ∷ c ∷ a) z o = omega (arith, digit_long (b ∷ c ∷ a) (λ e. omega arith))

-- "anything else is 17": a first argument that is neither `0` nor `1`, whatever follows it
pub else_17 : (first : List ℕ) (further : List (List ℕ)) → (first ≡ 48 ∷ [] → ⊥) → (first ≡ 49 ∷ [] → ⊥) → chosen (given (first ∷ further)) ≡ refused 17
unfolding given chosen refuse ◌>>=◌
else_17 first [] z o = rw (lt-ltb 1 (digit first) (no_choice_lem first z o)) refl
else_17 first (second ∷ further) z o = rw (lt-ltb 1 (digit first) (no_choice_lem first z o)) refl

-- a first argument that is one of them, and a second that is neither
pub else_18 : (first second : List ℕ) (further : List (List ℕ)) → digit first ≤ 1 → (second ≡ 48 ∷ [] → ⊥) → (second ≡ 49 ∷ [] → ⊥) → chosen (given (first ∷ second ∷ further)) ≡ refused 18
unfolding given chosen refuse ◌>>=◌
else_18 first second further h z o = rw (le-ltb 1 (digit first) h, lt-ltb 1 (digit second) (no_choice_lem second z o)) refl
