-- What `write_batch` promises: the answer, and what each lent slice holds then, from what was lent.
-- Assumes nothing.
use Rattle.std.specs.Prelude.{◌≡◌, List, [], ◌∷◌, ℕ, length}
use Rattle.definition.specs.Basics.{Answer, gives, ◌>>=◌}
use Rattle.definition.specs.Answers.{with_work}
use Rattle.definition.specs.Writing.{Lists, write}
use Rattle.promises.specs.Slices.{lengths, zeroed}
use Rattle.promises.specs.Promises.{left_in}

-- "its length in docs/": draft, in bytes (as long as the longest batch), table, source
unfoldable pub writer_needs : List ℕ
writer_needs = 49180 ∷ 16384 ∷ 6147 ∷ []

-- the bytes of the batch, in a destination of `room` bytes, or the refusal out of 1, 14 and 15
unfoldable pub wrote : List (List ℕ) → Lists → ℕ → Answer (List ℕ)
wrote work l room = with_work (lengths writer_needs work) (write l room)

-- THE PROMISE of `write_batch`, from the lists l, the destination and the work slices as they were lent
pub record Writes (l : Lists) (held : List ℕ) (work : List (List ℕ)) (r : Answer ℕ) (holds : List ℕ) (left : List (List ℕ)) : Type 0 where
  -- the answer is the definition's
  pub answer : r ≡ (wrote work l (length held) >>= λ bytes. gives (length bytes))
  -- "A refused write leaves the destination untouched"; else it holds the batch and beyond it what it held
  pub destination : holds ≡ left_in held (wrote work l (length held))
  -- work slices end as zeros
  pub zeros : left ≡ zeroed work
