-- The store that words tell.
-- Assumes nothing.
use Rattle.std.specs.Prelude.{List, ℕ, suc}
use Rattle.rows_model.specs.Row.{first_rows}
use Rattle.definition_laws.specs.Basics.{up_from}
use Rattle.run_model.specs.Store.{HeldNote, HeldChanged, Store}

-- n rows and the marks of all elements, with notes and changed elements
unfoldable pub stored : List ℕ → ℕ → List ℕ → List ℕ → List HeldNote → List HeldChanged → Store
stored text n rows marks notes changed = record { rows = first_rows text n rows; marks = marks; notes = notes; changed = changed }

-- the batch's own: element e of n stands at row e + 1
unfoldable pub stored_first : List ℕ → ℕ → List ℕ → List HeldNote → List HeldChanged → Store
stored_first text n source notes changed = stored text (suc n) source (up_from 1 n) notes changed
