-- What the functions promise. Text and changed elements are not read, so that each promise holds for any.
-- Assumes nothing.
use Rattle.std.specs.Prelude as prelude
use Rattle.std.specs.Prelude.{◌≡◌, List, ◌++◌, map, ℕ, ◌+◌, ◌≤◌, length, take}
use Rattle.rows_model.specs.Row.{first_rows}
use Rattle.run_model.specs.Store.{HeldNote, HeldChanged, with_row, Part, new_rows}
use Rattle.run_annotations.specs.Notes.{notes_of}
use Rattle.run_annotations.specs.Promises.{taken}
use Rattle.run_prepare.specs.Yields.{came_in, new_notes, part_sizes, prepared_by, notes_with, part_in}
use Rattle.run_prepare.specs.declared.Prepared.{Prepared}

-- the notes that come along with element e, behind the first c, told from the row `at` on
pub record NotesAlong (marks first : List ℕ) (held : List HeldNote) (e size at : ℕ) (old : List ℕ) (c : ℕ) (out : List ℕ) (r : prelude.Option ℕ) : Type 0 where
  pub answer : r ≡ taken 1024 (c + length (notes_with marks first held e size))
  pub notes : c + length (notes_with marks first held e size) ≤ 1024
      → notes_of (c + length (notes_with marks first held e size)) out ≡ notes_of c old ++ map (λ n. with_row n (at + n.row)) (notes_with marks first held e size)

-- the part y behind the first m rows and the first c notes, told from the row `at` on
pub record Behind (text : List ℕ) (y : Part) (at : ℕ) (old : List ℕ) (m : ℕ) (held : List ℕ) (c : ℕ) (old' held' : List ℕ) (r : prelude.Option Prepared) : Type 0 where
  pub answer : r ≡ prepared_by (m + length y.rows) (c + length y.notes)
  pub rows : (m' c' : ℕ) → r ≡ came_in m' c' → first_rows text m' old' ≡ first_rows text m old ++ y.rows
  pub notes : (m' c' : ℕ) → r ≡ came_in m' c' → notes_of c' held' ≡ notes_of c held ++ map (λ n. with_row n (at + n.row)) y.notes

-- m rows and c notes have come in with parts, the first of which comes to stand at the row `at`
pub record Came (text : List ℕ) (new : List Part) (at : ℕ) (prepared counts incoming : List ℕ) (m c : ℕ) : Type 0 where
  pub many : m ≡ length (new_rows new)
  pub noted : c ≡ length (new_notes at new)
  pub few_rows : m ≤ 4096
  pub few_notes : c ≤ 1024
  pub rows : first_rows text m prepared ≡ new_rows new
  pub sizes : take (length new) counts ≡ part_sizes new
  pub notes : notes_of c incoming ≡ new_notes at new

-- all parts have come in, or are too many
pub record AllIn (text : List ℕ) (new : List Part) (at : ℕ) (prepared sizes incoming : List ℕ) (r : prelude.Option Prepared) : Type 0 where
  pub answer : r ≡ prepared_by (length (new_rows new)) (length (new_notes at new))
  pub came : (m c : ℕ) → r ≡ came_in m c → Came text new at prepared sizes incoming m c

module _ (rows : List ℕ) (n : ℕ) (source marks first : List ℕ) (notes : List HeldNote) where
  -- what element e yields, behind what is prepared
  pub record ElementPrepared (e at : ℕ) (old : List ℕ) (m : ℕ) (held : List ℕ) (c : ℕ) (old' held' : List ℕ) (r : prelude.Option Prepared) : Type 0 where
    pub part : (text : List ℕ) (changed₀ changed : List HeldChanged) → Behind text (part_in rows n source marks first notes text changed₀ changed e) (at + m) old m held c old' held' r

  -- what the elements l yield
  pub record ElementsPrepared (l : List ℕ) (at : ℕ) (prepared sizes incoming : List ℕ) (r : prelude.Option Prepared) : Type 0 where
    pub parts : (text : List ℕ) (changed₀ changed : List HeldChanged) → AllIn text (map (part_in rows n source marks first notes text changed₀ changed) l) at prepared sizes incoming r
