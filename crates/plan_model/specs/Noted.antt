-- The settled notes in words: the definition's first notes, by their rows.
-- Assumes nothing.
use Rattle.std.specs.Prelude.{ℕ, suc}
use Rattle.run_model.specs.Store.{HeldNote}

-- a settled note (element, number, queue place) by its row: element e stands at row e + 1
unfoldable pub note_held : ℕ × ℕ × ℕ → HeldNote
note_held m = record { row = suc m.0; number = m.1; place = m.2 }
