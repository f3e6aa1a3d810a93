-- What the answer means: refused with its number, or the words of the settled notes at the front of the slice; and the settled elements are among those of the batch.
-- Assumes nothing.
use Rattle.std.specs.Prelude.{List, ◌≡◌, ℕ, ◌*◌, ◌<◌, Result, Ok, Err}
use Rattle.std.proofs.Math.Seq.{paste}
use Rattle.orders.specs.Lists.{All}
use Rattle.definition.specs.Basics.{Answer, refused, gives, ◌>>=◌}
use Rattle.read_element_table.specs.View.{view}
use Rattle.plan_mapping.specs.Mapped.{mapped_by}
use Rattle.refusals.specs.declared.Refusal.{Refusal}
use Rattle.refusals.specs.Numbers.{number}
use Rattle.plan_notes.specs.Notes.{settled_at, note_words}

-- with what was written
unfoldable pub notes_by : Result (Unit {0}) Refusal → List ℕ → Answer (List ℕ)
notes_by (Ok u) after = gives after
notes_by (Err r) after = refused (number r)

-- the settled elements are among n
abbrev pub NotesWithin : ℕ → Answer (List (ℕ × ℕ × ℕ)) → Type 0
NotesWithin n (refused number) = Unit
NotesWithin n (gives l) = All (λ m. m.0 < n) l

-- the k notes (element and number) are settled, or the first that is not is refused
pub record NotesSettled (n : ℕ) (table source map : List ℕ) (notes : List (ℕ × ℕ)) (k : ℕ) (before after : List ℕ) (answer : Result (Unit {0}) Refusal) : Type 0 where
  pub words : notes_by answer after ≡ (settled_at (view n table source) (mapped_by map) 0 notes >>= λ l. gives (paste before 0 (note_words l) (3 * k)))
  pub within : NotesWithin n (settled_at (view n table source) (mapped_by map) 0 notes)
