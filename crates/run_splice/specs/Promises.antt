-- What the functions promise, part by part. Text is not read, so that each promise holds for any.
-- Assumes nothing.
use Rattle.std.specs.Prelude as prelude
use Rattle.std.specs.Prelude.{◌≡◌, List, ◌++◌, map, ℕ, ◌+◌, ◌-◌, ◌*◌, ◌/◌, ◌≤◌, ◌<◌, ltb, length, drop}
use Rattle.orders.specs.Lists.{All, pick}
use Rattle.rows_model.specs.Row.{first_rows, triples}
use Rattle.rows_model.specs.Place.{splice_rows, moved_mark}
use Rattle.rows_syntax_node.specs.Rising.{Rising}
use Rattle.run_annotations.specs.Notes.{notes_of, notes_in}
use Rattle.run_annotations.specs.Changed.{changed_in, count_by, put_by}
use Rattle.run_annotations.specs.Places.{part_rows}
use Rattle.run_annotations.specs.Promises.{moved_note, moved_changed}

-- the rows p up to q give way to a run, and every mark moves; r rows then, and the marks rise
pub record SplicedMarks (rows : List ℕ) (n : ℕ) (marks : List ℕ) (parent p q lost : ℕ) (run : List ℕ) (gain : ℕ) (out marked : List ℕ) (r : ℕ) : Type 0 where
  pub told : (text : List ℕ) → first_rows text r out ≡ splice_rows (first_rows text n rows) parent p q lost (triples text run) gain
  pub count : r ≡ n - (q - p) + length run / 3
  pub beyond : drop (3 * r) out ≡ drop (3 * r) rows
  pub moved : marked ≡ map (moved_mark p q (length run / 3)) marks
  pub below : All (λ x. x < r) marked
  pub risen : Rising marked

-- the number of notes that stay, whatever comes in
pub record NotesLeft (notes : List ℕ) (p q r : ℕ) : Type 0 where
  pub count : (m : ℕ) → r ≡ length (pick (moved_note p q m) (notes_in notes))
  pub most : r ≤ length notes / 3

-- how many notes there will be with `come` more, told only as far as it is too many where there may be `most`
pub record NotesAfter (notes : List ℕ) (p q come most r : ℕ) : Type 0 where
  pub same : (m : ℕ) → ltb most r ≡ ltb most (length (pick (moved_note p q m) (notes_in notes)) + come)

-- the notes moved, and behind them those that come in
pub record NotesSpliced (l : List ℕ) (k p q m : ℕ) (incoming out : List ℕ) (r : ℕ) : Type 0 where
  pub notes : notes_of r out ≡ pick (moved_note p q m) (notes_of k l) ++ notes_in incoming
  pub count : r ≡ length (pick (moved_note p q m) (notes_of k l)) + length incoming / 3

-- what comes in behind the first k changed elements, if it is recorded
pub record Recorded (changed : List ℕ) (k at : ℕ) (recorded : prelude.Option ℕ) (sizes out : List ℕ) (r : ℕ) : Type 0 where
  pub rows : changed_in r out ≡ changed_in k changed ++ put_by recorded (part_rows at sizes)
  pub count : r ≡ k + count_by recorded (length sizes)

-- the changed elements moved, and behind them what comes in
pub record ChangedSpliced (changed : List ℕ) (k p q m : ℕ) (recorded : prelude.Option ℕ) (sizes out : List ℕ) (r : ℕ) : Type 0 where
  pub rows : changed_in r out ≡ pick (moved_changed p q m) (changed_in k changed) ++ put_by recorded (part_rows p sizes)
  pub most : r ≤ k + count_by recorded (length sizes)
