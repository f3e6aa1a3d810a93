-- What the public calls promise: the answer, and what each lent slice holds then, from what was lent.
-- Assumes nothing.
use Rattle.std.specs.Prelude.{◌≡◌, true, false, List, ◌++◌, ℕ, length, drop}
use Rattle.std.proofs.Math.Path.{refl}
use Rattle.std.proofs.Math.Option.{Option}
use Rattle.definition.specs.Basics.{Answer, gives, refused, ◌>>=◌, refuse}
use Rattle.definition.specs.Choices.{Choices, chosen}
use Rattle.definition.specs.Refusals.{accepted}
use Rattle.definition.specs.Answers.{plan, ran, edit, edited, with_work, with_choices, too_short}
use Rattle.definition.specs.FindElement.{find_in, find_element}
use Rattle.definition.specs.Finishing.{fitting, encoded}
use Rattle.definition.specs.Performed.{InsertsFew}
use Rattle.definition.specs.Account.{account, in_room, accounted}
use Rattle.share_laws.specs.Share.{shared}
use Rattle.promises.specs.Slices.{needed, lengths, zeroed}
use Rattle.promises.specs.Keeping.{kept}

-- ── The edit ────────────────────────────────────────────────────────────────────────────────────────────────

-- "The result slice holds the finished answer and beyond it what it held, or on refusal all that it held."
unfoldable pub left_in : List ℕ → Answer (List ℕ) → List ℕ
left_in held (refused n) = held
left_in held (gives bytes) = bytes ++ drop (length bytes) held

-- THE PROMISE of `edit`, from the choices h, the batch b, the result slice and the work slices as they were lent
pub record Edits (h : Choices) (b held : List ℕ) (work : List (List ℕ)) (r : Answer ℕ) (holds : List ℕ) (left : List (List ℕ)) : Type 0 where
  -- the answer is the definition's
  pub answer : r ≡ (edited h (lengths needed work) b (length held) >>= λ bytes. gives (length bytes))
  -- "The result slice holds the finished answer and beyond it what it held, or on refusal all that it held."
  pub result : holds ≡ left_in held (edited h (lengths needed work) b (length held))
  -- "Work slices end as zeros."
  pub zeros : left ≡ zeroed work
  -- "no splice inserts more than 41 subtrees" (document 02, Note 3)
  pub inserts : InsertsFew h b

-- THE PROMISE of `find_element`, from the choices h, the batch b, the number n and the work slices as they were lent
pub record Finds (h : Choices) (b : List ℕ) (n : ℕ) (work : List (List ℕ)) (r : Answer (Option ℕ)) (left : List (List ℕ)) : Type 0 where
  pub element : r ≡ find_element h (lengths needed work) b n
  pub zeros : left ≡ zeroed work
  pub inserts : InsertsFew h b

-- THE PROMISE of `account`, from the choices h, the batch b, the result slice and the work slices as they were lent
pub record Accounts (h : Choices) (b held : List ℕ) (work : List (List ℕ)) (r : Answer ℕ) (holds : List ℕ) (left : List (List ℕ)) : Type 0 where
  pub answer : r ≡ (accounted h (lengths needed work) b (length held) >>= λ text. gives (length text))
  -- the text stands at the front of the result slice, beyond it what that held, or on refusal all that it held
  pub result : holds ≡ left_in held (accounted h (lengths needed work) b (length held))
  pub zeros : left ≡ zeroed work

-- THE PROMISE of `share`, from the choices h, the batch b and the work slices as they were lent (document 02, Note 10)
pub record Shares (h : Choices) (b : List ℕ) (work : List (List ℕ)) (r : Answer (ℕ × ℕ)) (left : List (List ℕ)) : Type 0 where
  -- the quotient and the remainder are the definition's
  pub share : r ≡ shared h (lengths needed work) b
  pub zeros : left ≡ zeroed work

-- THE PROMISE of `kept`, from the choices h, the batch b, the result slice and the work slices as they were lent (document 02, Note 11)
pub record Keeps (h : Choices) (b held : List ℕ) (work : List (List ℕ)) (r : Answer ℕ) (holds : List ℕ) (left : List (List ℕ)) : Type 0 where
  pub answer : r ≡ (kept h (lengths needed work) b (length held) >>= λ bytes. gives (length bytes))
  -- the pairs stand at the front of the result slice, beyond them what that held, or on refusal all that it held
  pub result : holds ≡ left_in held (kept h (lengths needed work) b (length held))
  pub zeros : left ≡ zeroed work

-- ── Refusals 17, 18 and 1 ───────────────────────────────────────────────────────────────────────────────────

-- the bytes of the result, in a slice of `room` bytes, where neither refuses
unfoldable pub applied : Choices → List ℕ → ℕ → Answer (List ℕ)
applied h b room = do
  r ← edit h b
  r ← fitting room r
  gives (encoded r)

-- the element that is found, where neither refuses
unfoldable pub found : Choices → List ℕ → ℕ → Answer (Option ℕ)
found h b n = do
  a ← accepted b
  p ← plan h a
  w ← ran a p
  gives (find_in a.table w n)

-- the text of the account, in a slice of `room` bytes, where neither refuses
unfoldable pub recounted : Choices → List ℕ → ℕ → Answer (List ℕ)
recounted h b room = do
  text ← account h b
  in_room room text

-- 17 comes first, then 18, then 1, then the answer
module _ {A : Type 0} (h : Choices) (work : List (ℕ × ℕ)) (answer : Answer A) where
  pub wrongly_chosen : (k : ℕ) → chosen h ≡ refused k → with_choices h work answer ≡ refused k
  unfolding with_choices ◌>>=◌
  wrongly_chosen k e = rw e refl

  pub with_short : chosen h ≡ gives tt → too_short work ≡ true → with_choices h work answer ≡ refused 1
  unfolding with_choices with_work refuse ◌>>=◌
  with_short e t = rw (e, t) refl

  pub with_long : chosen h ≡ gives tt → too_short work ≡ false → with_choices h work answer ≡ answer
  unfolding with_choices with_work refuse ◌>>=◌
  with_long e t = rw (e, t) refl

module _ (h : Choices) (c : chosen h ≡ gives tt) (work : List (List ℕ)) where
  pub short_edited : (b : List ℕ) (room : ℕ) → too_short (lengths needed work) ≡ true → edited h (lengths needed work) b room ≡ refused 1
  unfolding edited
  short_edited b room = with_short h (lengths needed work) _ c

  pub long_edited : (b : List ℕ) (room : ℕ) → too_short (lengths needed work) ≡ false → edited h (lengths needed work) b room ≡ applied h b room
  unfolding edited applied
  long_edited b room = with_long h (lengths needed work) _ c

  pub long_found : (b : List ℕ) (n : ℕ) → too_short (lengths needed work) ≡ false → find_element h (lengths needed work) b n ≡ found h b n
  unfolding find_element found
  long_found b n = with_long h (lengths needed work) _ c
