-- DEMAND 1, of every call that keeps its promise. "A batch is only read" needs no statement: the batch is lent as a shared slice, which no call can write.
-- Assumes nothing.
use Rattle.std.specs.Prelude.{◌≡◌, true, List, map, ℕ, ◌≤◌, length, take, drop}
use Rattle.std.proofs.Math.Option.{Option}
use Rattle.orders.specs.Lists.{All}
use Rattle.definition.specs.Basics.{Answer, refused, gives, among}
use Rattle.definition.specs.Choices.{Choices}
use Rattle.definition.specs.Finishing.{Result, encoded}
use Rattle.definition.specs.Answers.{edit}
use Rattle.promises.specs.Slices.{lengths, zeros}
use Rattle.promises_read.specs.Refused.{edit_numbers, find_numbers}

-- the finished answer of n bytes at the front of the result slice, and beyond it what was held
pub record Finished (h : Choices) (b held : List ℕ) (n : ℕ) (holds : List ℕ) : Type 0 where
  pub result : Result
  pub edits : edit h b ≡ gives result
  pub size : length (encoded result) ≡ n
  pub room : n ≤ length held
  pub front : take n holds ≡ encoded result
  pub beyond : drop n holds ≡ drop n held

-- the work slices as they end: as long as they were, and of zeros
pub record Cleared (work left : List (List ℕ)) : Type 0 where
  pub lengths : map length left ≡ map length work
  pub zeros : All (All (λ w. w ≡ 0)) left

-- what demand 1 says of a call, for every content and length of what was lent
pub record Demand1 (h : Choices) (b held : List ℕ) (work : List (List ℕ)) (r : Answer ℕ) (holds : List ℕ) (left : List (List ℕ)) : Type 0 where
  -- a refusal's number is that of one of document 01's thirteen lines, or 16 or 17
  pub numbered : (k : ℕ) → r ≡ refused k → among edit_numbers k ≡ true
  -- "on refusal all that it held"
  pub untouched : (k : ℕ) → r ≡ refused k → holds ≡ held
  -- "The result slice holds the finished answer and beyond it what it held"
  pub finished : (n : ℕ) → r ≡ gives n → Finished h b held n holds
  -- no slice grows or shrinks; "Work slices end as zeros."
  pub holds_length : length holds ≡ length held
  pub cleared : Cleared work left

-- what demand 1 says of a call of `find_element`, which is lent no result slice
pub record Demand1Finds (h : Choices) (b : List ℕ) (n : ℕ) (work : List (List ℕ)) (r : Answer (Option ℕ)) (left : List (List ℕ)) : Type 0 where
  pub numbered : (k : ℕ) → r ≡ refused k → among find_numbers k ≡ true
  pub cleared : Cleared work left
