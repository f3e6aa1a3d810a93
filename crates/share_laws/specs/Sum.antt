-- THE SUM LAW: the bytes of the new tree that lie in at least one changed element are as many as the text lengths of the changed elements add up to, since no two of them are at or below each other.
-- Assumes nothing.
use Rattle.std.specs.Prelude.{◌≡◌, Bool, ℕ, ◌-◌, length}
use Rattle.std.proofs.Math.Bool.{true}
use mathlib.Core.List.{List}
use Rattle.std.proofs.Math.Option.{none}
use Rattle.orders.specs.Lists.{total}
use Rattle.definition.specs.Basics.{keep, numbered}
use Rattle.definition.specs.Elements.{Table, row, place_below}

-- the text length of element e, by its range
unfoldable pub text_length : Table → ℕ → ℕ
text_length F e = (row F e).end - (row F e).start

-- those of these elements, added up
unfoldable pub text_lengths : Table → List ℕ → ℕ
text_lengths F elements = total (λ e. true) (text_length F) elements

-- neither is at or below the other
abbrev pub Beside : Table → ℕ → ℕ → Type 0
Beside F c d = (place_below F c d ≡ none) × (place_below F d c ≡ none)

-- how many positions of a text pass a test, the first of them n
abbrev pub hits : (ℕ → Bool) → ℕ → List ℕ → ℕ
hits p n l = length (keep (λ b. p b.0) (numbered n l))
