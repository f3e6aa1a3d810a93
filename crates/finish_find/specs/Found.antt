-- What looking for an element answers.
-- Assumes nothing.
use Rattle.std.proofs.Math.Option.{Option, none, some}
use Rattle.std.specs.Prelude.{ℕ, Option as Answered, Some, None}

-- its number, or none
unfoldable pub found : Option ℕ → Answered ℕ
found none = None
found (some e) = Some e
