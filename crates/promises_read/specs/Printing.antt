-- Printed case: what is printed of an answer, from the result slice of every call that keeps its promise.
-- Assumes nothing.
use Rattle.std.specs.Prelude.{◌≡◌, false, List, ℕ, length, take}
use Rattle.std.proofs.Common.{ap, ◌∙◌}
use Rattle.definition.specs.Basics.{Answer, gives, ◌>>=◌}
use Rattle.definition.specs.Choices.{Choices, chosen}
use Rattle.definition.specs.Finishing.{fitting}
use Rattle.definition.specs.Answers.{edit, too_short}
use Rattle.definition.specs.Printed.{print, printed}
use Rattle.result_laws.proofs.Worded.{Bytes}
use Rattle.promises.specs.Slices.{needed, lengths}
use Rattle.promises.specs.Promises.{Edits}
use Rattle.promises_read.specs.Answered.{answer_in, edit_fitted}

-- "Its batch and result buffers have 65,536 bytes each; of a longer input it judges the first 65,536": what is read in the result slice prints what the definition prints of the input. A result
-- may have up to 65,560 bytes: 13 is printed of one that the buffer cannot hold.
pub printed_run : (h : Choices) (input held : List ℕ) (work : List (List ℕ)) (r : Answer ℕ) (holds : List ℕ) (left : List (List ℕ)) → Edits h (take 65536 input) held work r holds left → Bytes (take 65536 input)
    → chosen h ≡ gives tt → too_short (lengths needed work) ≡ false → length held ≡ 65536 → print (answer_in r holds) ≡ printed h input
unfolding printed ◌>>=◌
printed_run h input held work r holds left p b c w k = rw c (ap print (edit_fitted h (take 65536 input) held work r holds left p b c w ∙ ap (λ n. edit h (take 65536 input) >>= λ R. fitting n R) k))
