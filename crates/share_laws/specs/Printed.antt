-- What the share program prints (document 02, Note 10).
-- Assumes nothing.
use Rattle.std.specs.Prelude.{List, [], ◌∷◌, ℕ, take}
use Rattle.definition.specs.Basics.{Answer, refused, gives, ◌>>=◌}
use Rattle.definition.specs.Choices.{Choices, chosen}
use Rattle.definition.specs.Printed.{line, program_room}
use Rattle.share_laws.specs.Share.{share}

-- the whole quotient and the exact remainder; "a refusal prints `refused` and its number"
unfoldable pub share_line : Answer (ℕ × ℕ) → List ℕ
share_line (refused k) = line "refused" (k ∷ [])
share_line (gives s) = line "share" (s.0 ∷ s.1 ∷ [])

-- what it prints for an input, of which it judges as much as the edit program does
unfoldable pub share_printed : Choices → List ℕ → List ℕ
share_printed h input = share_line (do
  _ ← chosen h
  share h (take program_room input))
