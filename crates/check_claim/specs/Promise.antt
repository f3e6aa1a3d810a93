-- What `check` promises: the answer, and what each work slice holds then, from what was lent.
-- Assumes nothing.
use Rattle.std.specs.Prelude.{◌≡◌, Bool, List, [], ◌∷◌, ℕ}
use Rattle.definition.specs.Basics.{Answer}
use Rattle.definition.specs.Answers.{with_work}
use Rattle.promises.specs.Slices.{lengths, zeroed}
use Rattle.check_laws.specs.Check.{Claims, checked}

-- "its length in docs/": the words of the old elements and of the new ones, partners, marks
unfoldable pub checker_needs : List ℕ
checker_needs = 16384 ∷ 16384 ∷ 4096 ∷ 4096 ∷ []

-- the claims that the lists make
abbrev pub claims_in : List ℕ → List ℕ → List ℕ → List ℕ → List ℕ → List ℕ → List ℕ → List ℕ → List ℕ → Claims
claims_in kinds measures text kinds' measures' text' olds news changed = record {
  old = record { kinds = kinds; measures = measures; text = text };
  new = record { kinds = kinds'; measures = measures'; text = text' };
  olds = olds;
  news = news;
  changed = changed;
}

-- accepted or rejected, or the refusal out of 1, 3, 4, 5 and 19
unfoldable pub told : List (List ℕ) → Claims → Answer Bool
told work c = with_work (lengths checker_needs work) (checked c)

-- THE PROMISE of `check`, from the claims and the work slices as they were lent
pub record Checks (c : Claims) (work : List (List ℕ)) (r : Answer Bool) (left : List (List ℕ)) : Type 0 where
  -- the answer is the definition's
  pub answer : r ≡ told work c
  -- work slices end as zeros
  pub zeros : left ≡ zeroed work
