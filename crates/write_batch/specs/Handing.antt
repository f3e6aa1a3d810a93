-- A batch that is laid out in the draft, on its way to the destination: 14, then 15.
-- Assumes nothing.
use Rattle.std.specs.Prelude.{◌≡◌, List, ℕ, length, ltb}
use Rattle.definition.specs.Basics.{Answer, gives, ◌>>=◌, refuse, is_refused}
use Rattle.definition.specs.Refusals.{accepted}
use Rattle.promises.specs.Promises.{left_in}

-- the answer and the destination, which held `held` and holds `holds`, where this is to be written
pub record Told (want : Answer (List ℕ)) (held : List ℕ) (r : Answer ℕ) (holds : List ℕ) : Type 0 where
  pub answer : r ≡ (want >>= λ bytes. gives (length bytes))
  pub destination : holds ≡ left_in held want

-- 15, of the batch b
unfoldable pub fitted : List ℕ → ℕ → Answer (List ℕ)
fitted b room = refuse 15 (ltb room (length b)) >>= λ _. gives b

-- 14, then 15
unfoldable pub handed : List ℕ → ℕ → Answer (List ℕ)
handed b room = refuse 14 (is_refused (accepted b)) >>= λ _. fitted b room
