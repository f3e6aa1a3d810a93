-- What `syntax_check` returns, as one number, and what it promises.
-- Assumes nothing.
use Rattle.std.specs.Prelude.{◌≡◌, refl, Bool, true, false, ◌||◌, List, ℕ, ◌≤◌, ℤ}
use Rattle.std.proofs.Common.{ap, ◌∙◌, arith, to_z, of_z}
use Rattle.std.specs.Int.{w64}
use Rattle.definition.specs.Basics.{Answer, refused, gives, refuse, or_refuse, any, among}
use Rattle.definition.specs.Elements.{table, spelled}
use Rattle.definition.specs.Answers.{too_short, with_work}
use Rattle.promises.specs.Slices.{lengths}
use Rattle.promises_read.specs.Refused.{By, by_then, by_refuse, by_or, by_number}
use Rattle.check_laws.specs.Check.{Claims, too_big, unequal, alone, names_none, checked}
use Rattle.check_claim.specs.Promise.{checker_needs, told, Checks}
use Rattle.edit_numbers.specs.Negated.{neg_told, pos_told}
use Rattle.syntax_check.specs.Returned.{verdict_number, ReturnsVerdict, check_numbers}

-- ── By which numbers the checker refuses ────────────────────────────────────────────────────────────────────

-- the definition gives no other
pub checked_by : (c : Claims) → By check_numbers (checked c)
unfolding checked among any
checked_by c =
    by_then check_numbers (refuse 3 (too_big c.old || too_big c.new)) _ (by_refuse check_numbers 3 _ refl) λ u.
    by_then check_numbers (refuse 4 (unequal c)) _ (by_refuse check_numbers 4 _ refl) λ u.
    by_then check_numbers (or_refuse 5 (spelled (alone c.old))) _ (by_or check_numbers 5 _ refl) λ os.
    by_then check_numbers (or_refuse 5 (spelled (alone c.new))) _ (by_or check_numbers 5 _ refl) λ ns.
    by_then check_numbers (refuse 19 (names_none (table 0 0 os) (table 0 0 ns) c)) _ (by_refuse check_numbers 19 _ refl) λ u. tt

-- nor does a call
pub told_by : (work : List (List ℕ)) (c : Claims) → By check_numbers (told work c)
unfolding told with_work among any
told_by work c = by_then check_numbers (refuse 1 (too_short (lengths checker_needs work))) _ (by_refuse check_numbers 1 _ refl) λ u. checked_by c

-- ── From what is checked ────────────────────────────────────────────────────────────────────────────────────

-- a refusal's number is small
pub number_small : (a : Answer Bool) (n : ℕ) → By check_numbers a → a ≡ refused n → n ≤ 134217728
unfolding any
number_small a n h e = omega (arith, (by_number check_numbers 1 19 n a refl h e).1)

-- the number is read back as it was written
pub verdict_read : (a : Answer Bool) → By check_numbers a → to_z w64 (of_z w64 (verdict_number a)) ≡ verdict_number a
unfolding verdict_number
verdict_read (refused n) h = neg_told n (number_small (refused n) n h refl)
verdict_read (gives true) h = pos_told 1 (omega arith)
verdict_read (gives false) h = pos_told 0 (omega arith)

module _ {c : Claims} {work left : List (List ℕ)} {a : Answer Bool} (s : Checks c work a left) where
  -- what the checker tells has one of these numbers
  pub checks_by : By check_numbers a
  checks_by = rw s.answer (told_by work c)

  -- and its number is what is promised
  pub check_returned : (z : ℤ) → z ≡ verdict_number a → ReturnsVerdict c work (to_z w64 (of_z w64 z)) left
  check_returned z q = record { answer = ap (λ (y : ℤ). to_z w64 (of_z w64 y)) q ∙ (verdict_read a checks_by ∙ ap verdict_number s.answer); zeros = s.zeros }
