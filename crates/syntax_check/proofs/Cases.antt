-- A verdict's number, case by case.
-- Assumes nothing.
use mathlib.Core.Path.{◌≡◌, refl, ◌∙◌}
use Prim.Native.Nat.{ℕ, ◌≤◌}
use lib.IntN.{ℤ, pos, neg_ℤ}
use Rattle.std.specs.Prelude.{Result, Ok, Err}
use Rattle.refusals.specs.Numbers.{number}
use Rattle.refusals.specs.declared.Refusal.{Refusal}
use Rattle.promises_read.specs.Refused.{By}
use Rattle.check_claim.specs.declared.Verdict.{Verdict}
use Rattle.check_claim.specs.declared.Verdict.TheVariants.{Accepted, Rejected}
use Rattle.check_claim.specs.Judging.{answer_of}
use Rattle.syntax_check.specs.Returned.{verdict_number, check_numbers}
use Rattle.syntax_check.proofs.Returned.{number_small}

module _ (a : Result Verdict Refusal) (r : Refusal) (e : a ≡ Err r) {n : ℕ} (k : n ≡ number r) where
  pub few : By check_numbers (answer_of a) → n ≤ 134217728
  unfolding answer_of
  few h = number_small (answer_of a) n h (rw (e, k) refl)

  pub tells_refused : {z : ℤ} → z ≡ neg_ℤ (pos n) → z ≡ verdict_number (answer_of a)
  unfolding verdict_number answer_of
  tells_refused q = q ∙ rw (e, ← k) refl

pub tells_accepted : (a : Result Verdict Refusal) → a ≡ Ok Accepted → pos 1 ≡ verdict_number (answer_of a)
unfolding verdict_number answer_of
tells_accepted a e = rw e refl

pub tells_rejected : (a : Result Verdict Refusal) → a ≡ Ok Rejected → pos 0 ≡ verdict_number (answer_of a)
unfolding verdict_number answer_of
tells_rejected a e = rw e refl
