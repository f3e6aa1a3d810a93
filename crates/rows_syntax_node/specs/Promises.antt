-- What the functions on rows promise, part by part. `text` is the text of all: no function here reads it, so that each promise holds for any.
-- Assumes nothing.
use Rattle.std.specs.Prelude as prelude
use Rattle.std.specs.Prelude.{◌≡◌, None, Some, cond, List, ◌++◌, map, ℕ, ◌+◌, ◌-◌, ◌*◌, ◌/◌, ◌^◌, ◌≤◌, ◌<◌, ltb, length, get_or, drop}
use Rattle.orders.specs.Lists.{All}
use Rattle.rows_model.specs.Row.{row_in, first_rows, triples, owes, text_length, trees_in, bytes, height}
use Rattle.rows_model.specs.Place.{rows_after, child_row, between, subtree, splice_rows, moved_mark}

-- the number of children of the element at row i
pub record Counted (rows : List ℕ) (i r : ℕ) : Type 0 where
  pub count : (text : List ℕ) → r ≡ owes (row_in text rows i)
  pub small : r < 2 ^ 32

-- the length of its own text
pub record Measured (rows : List ℕ) (i r : ℕ) : Type 0 where
  pub own : (text : List ℕ) → r ≡ text_length (row_in text rows i)
  pub small : r < 2 ^ 32

-- the row after the next `owed` trees from row `at` on
pub record After (rows : List ℕ) (n at owed r : ℕ) : Type 0 where
  pub row : (text : List ℕ) → r ≡ rows_after (first_rows text n rows) at owed
  pub low : at ≤ r
  pub high : r ≤ n

-- the row of child i of the node at row `parent`
pub record ChildAt (rows : List ℕ) (n parent i r : ℕ) : Type 0 where
  pub row : (text : List ℕ) → r ≡ child_row (first_rows text n rows) parent i
  pub low : parent < r
  pub high : r ≤ n

-- the number of trees of a run
pub record TreesIn (run : List ℕ) (r : ℕ) : Type 0 where
  pub count : (text : List ℕ) → r ≡ trees_in (triples text run)
  pub few : 3 * r ≤ length run

-- the number of trees of the rows p up to q
pub record TreesBetween (rows : List ℕ) (n p q r : ℕ) : Type 0 where
  pub count : (text : List ℕ) → r ≡ trees_in (between p q (first_rows text n rows))
  pub few : r ≤ q - p

-- the length of the text of a run
pub record Bytes (run : List ℕ) (r : ℕ) : Type 0 where
  pub sum : (text : List ℕ) → r ≡ bytes (triples text run)
  pub small : r < 2 ^ 48

-- a height, none where it is more than 64
unfoldable pub height_by : ℕ → prelude.Option ℕ
height_by h = cond (ltb 64 h) None (Some h)

-- the height of a run
pub record Height (run : List ℕ) (r : prelude.Option ℕ) : Type 0 where
  pub most : (text : List ℕ) → r ≡ height_by (height (triples text run))

-- the element at row `at` with all that is below it, as a part of the words
pub record Part (rows : List ℕ) (n at : ℕ) (run : List ℕ) : Type 0 where
  pub told : (text : List ℕ) → triples text run ≡ subtree (first_rows text n rows) at
  pub long : (text : List ℕ) → length run ≡ 3 * length (subtree (first_rows text n rows) at)

-- a run written behind the first n rows; r rows then, and beyond them what was there
pub record Appended (rows : List ℕ) (n : ℕ) (run out : List ℕ) (r : ℕ) : Type 0 where
  pub told : (text : List ℕ) → first_rows text r out ≡ first_rows text n rows ++ triples text run
  pub count : r ≡ n + length run / 3
  pub beyond : drop (3 * r) out ≡ drop (3 * r) rows

-- the rows p up to q give way to a run; r rows then, and beyond them what was there
pub record Spliced (rows : List ℕ) (n parent p q removed : ℕ) (run : List ℕ) (gain : ℕ) (out : List ℕ) (r : ℕ) : Type 0 where
  pub told : (text : List ℕ) → first_rows text r out ≡ splice_rows (first_rows text n rows) parent p q removed (triples text run) gain
  pub count : r ≡ n - (q - p) + length run / 3
  pub beyond : drop (3 * r) out ≡ drop (3 * r) rows

-- one mark moved
pub record Moved (p q m x r : ℕ) : Type 0 where
  pub mark : r ≡ moved_mark p q m x
  pub small : r < 2 ^ 17

-- every mark moved; those that were below the number of rows are below the new number of rows
pub record Shifted (marks : List ℕ) (p q m : ℕ) (out : List ℕ) : Type 0 where
  pub moved : out ≡ map (moved_mark p q m) marks
  pub below : (n : ℕ) → 0 < p → q ≤ n → All (λ x. x < n) marks → All (λ x. x < n - (q - p) + m) out

-- marks that lie before an element are below p, and so do not move where rows from p on give way
pub record FirstMoved (marks : List ℕ) (p r : ℕ) : Type 0 where
  pub inside : r ≤ length marks
  pub before : (i : ℕ) → i < r → get_or marks i 0 < p
