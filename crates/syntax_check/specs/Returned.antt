-- What `syntax_check` returns, as one number, and what it promises.
-- Assumes nothing.
use Rattle.std.specs.Prelude.{◌≡◌, Bool, true, false, List, [], ◌∷◌, ℕ, ℤ, pos, neg_ℤ}
use Rattle.definition.specs.Basics.{Answer, refused, gives}
use Rattle.promises.specs.Slices.{zeroed}
use Rattle.check_laws.specs.Check.{Claims}
use Rattle.check_claim.specs.Promise.{told}

-- 1 for accepted, 0 for rejected, or the refusal's number with a minus
unfoldable pub verdict_number : Answer Bool → ℤ
verdict_number (refused n) = neg_ℤ (pos n)
verdict_number (gives true) = pos 1
verdict_number (gives false) = pos 0

-- THE PROMISE of `syntax_check`, from the claims and the work slices as they were lent
pub record ReturnsVerdict (c : Claims) (work : List (List ℕ)) (r : ℤ) (left : List (List ℕ)) : Type 0 where
  -- accepted, rejected, or the refusal, by the definition
  pub answer : r ≡ verdict_number (told work c)
  -- work slices end as zeros
  pub zeros : left ≡ zeroed work

-- THE NUMBERS that the call can give
abbrev pub check_numbers : List ℕ
check_numbers = 1 ∷ 3 ∷ 4 ∷ 5 ∷ 19 ∷ []
