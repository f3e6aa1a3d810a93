-- Line 7, of a note: what it asks of the table is its length alone.
-- Assumes nothing.
use Rattle.std.specs.Prelude.{◌≡◌, Bool, ◌||◌, ℕ, length, leb, eqb}
use Rattle.std.proofs.Common.{ap}
use Rattle.definition.specs.Elements.{Table}
use Rattle.definition.specs.Refusals.{wrong_note}

-- a note (element and number) names none of n elements, or is numbered 0
unfoldable pub note_wrong : ℕ → ℕ × ℕ → Bool
note_wrong n m = leb n m.0 || eqb m.1 0

pub note_told : (T : Table) (n : ℕ) → length T ≡ n → wrong_note T ≡ note_wrong n
unfolding wrong_note note_wrong
note_told T n e = ap {B = ℕ × ℕ → Bool} (λ (k : ℕ) m. leb k m.0 || eqb m.1 0) e
