-- What the functions on changed rows and notes promise, part by part.
-- Assumes nothing.
use Rattle.std.specs.Prelude as prelude
use Rattle.std.specs.Prelude.{◌≡◌, None, Some, cond, List, [], ◌++◌, map, ℕ, suc, ◌+◌, ◌*◌, ◌≤◌, ltb, length, get_or, drop}
use Rattle.std.proofs.Math.Option
use Rattle.std.proofs.Math.Option.{Option}
use Rattle.orders.specs.Lists.{meant, more, pick}
use Rattle.orders.specs.Tree.{shift}
use Rattle.rows_model.specs.Place.{in_run}
use Rattle.run_model.specs.Store.{HeldNote, HeldChanged, with_row, at_row, put_in}
use Rattle.run_annotations.specs.Notes.{notes_of, notes_in, note_at}
use Rattle.run_annotations.specs.Changed.{changed_of, changed_in}
use Rattle.run_annotations.specs.Places.{part_rows}

-- where the row x comes to stand where the rows p up to q give way to m others
pub record Moved (p q m x : ℕ) (r : prelude.Option ℕ) : Type 0 where
  pub row : meant r ≡ shift p q m x
  pub low : (y : ℕ) → r ≡ Some y → y ≤ x + m

-- what becomes of a changed element where the rows p up to q give way to m others
abbrev pub moved_changed : ℕ → ℕ → ℕ → HeldChanged → Option HeldChanged
moved_changed p q m c = Option.map (at_row c) (shift p q m c.row)

-- one changed element moved behind the first r
pub record RowMoved (l : List ℕ) (i r p q m : ℕ) (out : List ℕ) (n : ℕ) : Type 0 where
  pub kept : changed_in n out ≡ changed_in r l ++ more (moved_changed p q m (changed_of (get_or l i 0))) []
  pub rest : drop (suc i) out ≡ drop (suc i) l
  pub long : length out ≡ length l
  pub most : n ≤ suc i

-- the first k changed elements moved
pub record RowsMoved (l : List ℕ) (k p q m : ℕ) (out : List ℕ) (r : ℕ) : Type 0 where
  pub rows : changed_in r out ≡ pick (moved_changed p q m) (changed_in k l)
  pub count : r ≡ length (pick (moved_changed p q m) (changed_in k l))
  pub most : r ≤ k

-- what becomes of a note where the rows p up to q give way to m others
abbrev pub moved_note : ℕ → ℕ → ℕ → HeldNote → Option HeldNote
moved_note p q m n = Option.map (with_row n) (shift p q m n.row)

-- one note moved behind the first r
pub record NoteMoved (l : List ℕ) (i r p q m : ℕ) (out : List ℕ) (n : ℕ) : Type 0 where
  pub kept : notes_of n out ≡ notes_of r l ++ more (moved_note p q m (note_at l i)) []
  pub rest : drop (3 * suc i) out ≡ drop (3 * suc i) l
  pub long : length out ≡ length l
  pub most : n ≤ suc i

-- the first k notes moved
pub record NotesMoved (l : List ℕ) (k p q m : ℕ) (out : List ℕ) (r : ℕ) : Type 0 where
  pub notes : notes_of r out ≡ pick (moved_note p q m) (notes_of k l)
  pub count : r ≡ length (pick (moved_note p q m) (notes_of k l))
  pub most : r ≤ k

-- a note in the rows p up to q, told from p on
abbrev pub note_in : ℕ → ℕ → HeldNote → Option HeldNote
note_in p q n = Option.map (with_row n) (in_run p q n.row)

-- the same where p comes to stand at the row `at`
abbrev pub placed_note : ℕ → ℕ → ℕ → HeldNote → Option HeldNote
placed_note p q at n = Option.map (λ row. with_row n (at + row)) (in_run p q n.row)

-- one note taken behind the first c, while there is room
pub record NoteTaken (l : List ℕ) (i p q at most : ℕ) (old : List ℕ) (c : ℕ) (out : List ℕ) (n : ℕ) : Type 0 where
  pub count : n ≡ c + length (more (placed_note p q at (note_at l i)) [])
  pub notes : n ≤ most → notes_of n out ≡ notes_of c old ++ more (placed_note p q at (note_at l i)) []
  pub long : length out ≡ length old
  pub low : c ≤ n
  pub high : n ≤ c + 1

-- n notes, if they are no more than `most`
unfoldable pub taken : ℕ → ℕ → prelude.Option ℕ
taken most n = cond (ltb most n) None (Some n)

-- the notes in the rows p up to q taken behind the first c, told from the row `at` on
pub record NotesTaken (l : List ℕ) (p q at most : ℕ) (old : List ℕ) (c : ℕ) (out : List ℕ) (r : prelude.Option ℕ) : Type 0 where
  pub answer : r ≡ taken most (c + length (pick (note_in p q) (notes_in l)))
  pub notes : c + length (pick (note_in p q) (notes_in l)) ≤ most
      → notes_of (c + length (pick (note_in p q) (notes_in l))) out ≡ notes_of c old ++ map (λ n. with_row n (at + n.row)) (pick (note_in p q) (notes_in l))

-- parts of some sizes, put in by this rule, added behind the first k changed elements; the first part stands at the row `at`
pub record RowsAdded (l : List ℕ) (k at rule : ℕ) (sizes out : List ℕ) (r : ℕ) : Type 0 where
  pub rows : changed_in r out ≡ changed_in k l ++ map (put_in rule) (part_rows at sizes)
  pub count : r ≡ k + length sizes
