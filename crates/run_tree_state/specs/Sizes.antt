-- How large a step makes what is held, told before it.
-- Assumes nothing.
use Rattle.std.specs.Prelude as prelude
use Rattle.std.specs.Prelude.{◌≡◌, None, Some, Bool, cond, List, [], ℕ, ◌+◌, ◌-◌, ◌/◌, ◌≤◌, min, length}
use Rattle.orders.specs.Lists.{pick}
use Rattle.rows_model.specs.Row.{triples, first_rows, bytes, height}
use Rattle.rows_model.specs.Place.{between}
use Rattle.run_model.specs.Sums.{too_large_by}
use Rattle.run_annotations.specs.Notes.{notes_of}
use Rattle.run_annotations.specs.Promises.{moved_note}
use Rattle.run_tree_store.specs.declared.Gap.{Gap}
use Rattle.run_tree_state.specs.declared.TreeState.{TreeState}

-- the text bytes of the rows p up to q
pub record BytesBetween (rows : List ℕ) (n p q r : ℕ) : Type 0 where
  pub sum : (text : List ℕ) → r ≡ bytes (between p q (first_rows text n rows))
  pub small : r ≤ bytes (first_rows [] n rows)

-- too large, or the text bytes
unfoldable pub size_by : Bool → ℕ → prelude.Option ℕ
size_by large bytes = cond large None (Some bytes)

module _ (rows notes : List ℕ) (s : TreeState) (g : Gap) (run incoming : List ℕ) (above : ℕ) where
  -- the rows, text bytes and notes that there will be, and the depth of what comes in
  unfoldable pub rows_then : ℕ
  rows_then = s.rows - (g.to - g.from) + length run / 3

  unfoldable pub bytes_then : List ℕ → ℕ
  bytes_then text = bytes (first_rows text s.rows rows) + bytes (triples text run) - bytes (between g.from g.to (first_rows text s.rows rows))

  unfoldable pub notes_then : ℕ
  notes_then = length (pick (moved_note g.from g.to (length run / 3)) (notes_of s.notes notes)) + length incoming / 3

  unfoldable pub large_then : List ℕ → Bool
  large_then text = too_large_by rows_then (bytes_then text) notes_then (above + min 65 (height (triples text run)))

  pub record StepSize (r : prelude.Option ℕ) : Type 0 where
    pub answer : (text : List ℕ) → r ≡ size_by (large_then text) (bytes_then text)
