-- Share of text rewritten (document 02, Note 10): the definition.
-- Assumes nothing.
use Rattle.std.specs.Prelude.{Bool, ◌&&◌, ℕ, zero, suc, ◌*◌, ◌/◌, ◌%◌, length, leb, ltb}
use mathlib.Core.List.{List, flat_map}
use Rattle.orders.specs.Tree.{text}
use Rattle.definition.specs.Basics.{Answer, gives, ◌>>=◌, any, keep, numbered}
use Rattle.definition.specs.Choices.{Choices}
use Rattle.definition.specs.Elements.{Row, Table, row}
use Rattle.definition.specs.Refusals.{accepted}
use Rattle.definition.specs.Running.{World}
use Rattle.definition.specs.Finishing.{new_tree, new_table}
use Rattle.definition.specs.Answers.{plan, ran, with_choices}
use Rattle.definition_account.specs.Words.{changed_in}

-- the byte at position i of a tree's text lies in the element of this row: not before its start, and before its end
unfoldable pub lies_in : ℕ → Row → Bool
lies_in i r = leb r.start i && ltb i r.end

-- "lie in at least one" of these elements
unfoldable pub lies_in_one : Table → List ℕ → ℕ → Bool
lies_in_one F elements i = any (λ e. lies_in i (row F e)) elements

-- the bytes of a text that do so, each with its position
unfoldable pub bytes_in : Table → List ℕ → List ℕ → List (ℕ × ℕ)
bytes_in F elements bytes = keep (λ b. lies_in_one F elements b.0) (numbered 0 bytes)

-- the new tree's text
unfoldable pub new_text : World → List ℕ
new_text w = flat_map text (new_tree w)

-- "the bytes of the new tree that lie in at least one changed element"
unfoldable pub rewritten_bytes : World → List (ℕ × ℕ)
rewritten_bytes w = bytes_in (new_table w) (changed_in (new_table w) w) (new_text w)

-- "times 1,000, divided by all its bytes: whole quotient and exact remainder. An empty text gives 0 and 0."
unfoldable pub thousandths : ℕ → ℕ → ℕ × ℕ
thousandths part zero = (0, 0)
thousandths part (suc n) = (1000 * part / suc n, 1000 * part % suc n)

-- the share, of what the steps left
unfoldable pub share_in : World → ℕ × ℕ
share_in w = thousandths (length (rewritten_bytes w)) (length (new_text w))

-- "A call on a batch, whose refusals come first": those of its edit, 2 to 12 and 16; there is no result buffer, so never 13
unfoldable pub share : Choices → List ℕ → Answer (ℕ × ℕ)
share h bytes = do
  a ← accepted bytes
  p ← plan h a
  w ← ran a p
  gives (share_in w)

-- THE SHARE as a public call gives it: 17, 18, then 1, then those
unfoldable pub shared : Choices → List (ℕ × ℕ) → List ℕ → Answer (ℕ × ℕ)
shared h work bytes = with_choices h work (share h bytes)
