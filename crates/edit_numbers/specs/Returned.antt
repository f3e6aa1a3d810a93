-- What the exported calls return, as one number, and what they promise.
-- Assumes nothing.
use Rattle.std.specs.Prelude.{◌≡◌, List, ℤ, pos, neg_ℤ, length}
use Rattle.std.proofs.Math.Option.{Option, none, some}
use Prim.Native.Nat.{ℕ}
use Rattle.definition.specs.Basics.{Answer, refused, gives}
use Rattle.definition.specs.Choices.{Choices}
use Rattle.definition.specs.Answers.{edited}
use Rattle.definition.specs.FindElement.{find_element}
use Rattle.definition.specs.Performed.{InsertsFew}
use Rattle.definition.specs.Account.{accounted}
use Rattle.share_laws.specs.Share.{shared}
use Rattle.promises.specs.Slices.{needed, lengths, zeroed}
use Rattle.promises.specs.Keeping.{kept}
use Rattle.promises.specs.Promises.{left_in}
use Rattle.edit_numbers.specs.Told.{share_word}

-- the length of the answer, or the refusal's number with a minus
unfoldable pub returned : Answer (List ℕ) → ℤ
returned (refused n) = neg_ℤ (pos n)
returned (gives bytes) = pos (length bytes)

-- the element, −1000 for none, or the refusal's number with a minus
unfoldable pub returned_element : Answer (Option ℕ) → ℤ
returned_element (refused n) = neg_ℤ (pos n)
returned_element (gives none) = neg_ℤ (pos 1000)
returned_element (gives (some e)) = pos e

-- THE PROMISE of `syntax_edit`, from the choices h, the batch b, the result slice and the work slices as they were lent
pub record Returns (h : Choices) (b held : List ℕ) (work : List (List ℕ)) (r : ℤ) (holds : List ℕ) (left : List (List ℕ)) : Type 0 where
  pub answer : r ≡ returned (edited h (lengths needed work) b (length held))
  -- "The result slice holds the finished answer and beyond it what it held, or on refusal all that it held."
  pub result : holds ≡ left_in held (edited h (lengths needed work) b (length held))
  -- "Work slices end as zeros."
  pub zeros : left ≡ zeroed work
  -- "no splice inserts more than 41 subtrees"
  pub inserts : InsertsFew h b

-- THE PROMISE of `syntax_find_element`, from the choices h, the batch b, the number n and the work slices as they were lent
pub record ReturnsElement (h : Choices) (b : List ℕ) (n : ℕ) (work : List (List ℕ)) (r : ℤ) (left : List (List ℕ)) : Type 0 where
  pub element : r ≡ returned_element (find_element h (lengths needed work) b n)
  pub zeros : left ≡ zeroed work
  pub inserts : InsertsFew h b

-- THE PROMISE of `syntax_account`, from the choices h, the batch b, the result slice and the work slices as they were lent
pub record ReturnsAccount (h : Choices) (b held : List ℕ) (work : List (List ℕ)) (r : ℤ) (holds : List ℕ) (left : List (List ℕ)) : Type 0 where
  pub answer : r ≡ returned (accounted h (lengths needed work) b (length held))
  pub result : holds ≡ left_in held (accounted h (lengths needed work) b (length held))
  pub zeros : left ≡ zeroed work

-- THE PROMISE of `syntax_kept`, from the choices h, the batch b, the result slice and the work slices as they were lent
pub record ReturnsKept (h : Choices) (b held : List ℕ) (work : List (List ℕ)) (r : ℤ) (holds : List ℕ) (left : List (List ℕ)) : Type 0 where
  pub answer : r ≡ returned (kept h (lengths needed work) b (length held))
  pub result : holds ≡ left_in held (kept h (lengths needed work) b (length held))
  pub zeros : left ≡ zeroed work

-- a share: 65,536 times the quotient and the remainder, or the refusal's number with a minus
unfoldable pub returned_share : Answer (ℕ × ℕ) → ℤ
returned_share (refused n) = neg_ℤ (pos n)
returned_share (gives s) = pos (share_word s.0 s.1)

-- THE PROMISE of `syntax_share`, from the choices h, the batch b and the work slices as they were lent
pub record ReturnsShare (h : Choices) (b : List ℕ) (work : List (List ℕ)) (r : ℤ) (left : List (List ℕ)) : Type 0 where
  pub share : r ≡ returned_share (shared h (lengths needed work) b)
  pub zeros : left ≡ zeroed work
