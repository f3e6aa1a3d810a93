-- The number of an element of tree 0 as the code answers it.
-- Assumes nothing.
use Rattle.std.specs.Prelude.{Bool, ◌≡◌, refl, ◌⊎◌, ℕ, ◌-◌, ◌≤◌, ◌<◌, Option as Answered, Some, None, is_some as found}
use Rattle.std.proofs.Common.{sym, ap, ◌∙◌, inl, inr}
use Rattle.std.proofs.Math.Option.{Option, none, some}
use Rattle.orders.specs.ListLaws.{lt_or_le, zone_before, zone_inside, zone_after}
use Rattle.definition.specs.Basics.{is_some}
use Rattle.rows_model.specs.Place.{in_run}

-- the number, or none
unfoldable pub told : Option ℕ → Answered ℕ
told none = None
told (some e) = Some e

-- back from what is answered
pub told_some : (o : Option ℕ) {r : Answered ℕ} {e : ℕ} → r ≡ told o → r ≡ Some e → o ≡ some e
unfolding told
told_some none q i = let z = sym q ∙ i in cc
told_some (some x) q i = let z = sym q ∙ i in cc

pub told_none : (o : Option ℕ) {r : Answered ℕ} → r ≡ told o → r ≡ None → o ≡ none
unfolding told
told_none none q i = refl
told_none (some x) q i = let z = sym q ∙ i in cc

-- ── By its row ──────────────────────────────────────────────────────────────────────────────────────────────

module _ (end row : ℕ) where
  pub numbered : 1 ≤ row → row < end → Some (row - 1) ≡ told (in_run 1 end row)
  unfolding told in_run
  numbered h k = sym (ap told (zone_inside row 1 end none (some (row - 1)) none h k))

  pub unnumbered : (row < 1) ⊎ (end ≤ row) → None ≡ told (in_run 1 end row)
  unfolding told in_run
  unnumbered h = go h (lt_or_le row 1)
    where
      before : row < 1 → None ≡ told (in_run 1 end row)
      before k = sym (ap told (zone_before row 1 end none (some (row - 1)) none k))

      go : (row < 1) ⊎ (end ≤ row) → (row < 1) ⊎ (1 ≤ row) → None ≡ told (in_run 1 end row)
      go h (inl k) = before k
      go (inl k) z = before k
      go (inr k) (inr l) = sym (ap told (zone_after row 1 end none (some (row - 1)) none l k))

-- and from the number back to the row
pub row_told : (end row : ℕ) {r : Answered ℕ} {e : ℕ} → r ≡ told (in_run 1 end row) → r ≡ Some e → (1 ≤ row) × (row < end) × (e ≡ row - 1)
unfolding told in_run
row_told end row {r} {e} q i = go (lt_or_le row 1) (lt_or_le row end)
  where
    apart : None ≡ told (in_run 1 end row) → ⊥
    apart n = let z = n ∙ sym q ∙ i in cc

    go : (row < 1) ⊎ (1 ≤ row) → (row < end) ⊎ (end ≤ row) → (1 ≤ row) × (row < end) × (e ≡ row - 1)
    go (inl h) k = absurd (apart (unnumbered end row (inl h)))
    go (inr h) (inr k) = absurd (apart (unnumbered end row (inr k)))
    go (inr h) (inl k) = (h, k, let z = sym i ∙ q ∙ sym (numbered end row h k) in cc)

-- whether there is one
pub told_there : (o : Option ℕ) → found (told o) ≡ is_some o
unfolding told is_some
told_there none = refl
told_there (some e) = refl

-- what the test of a row answers
pub test_told : (end : ℕ) {row x : ℕ} {r : Answered ℕ} {b : Bool} → row ≡ x → r ≡ told (in_run 1 end row) → b ≡ found r → b ≡ found (told (in_run 1 end x))
test_told end e f g = g ∙ rw (f, e)
