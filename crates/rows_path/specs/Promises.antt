-- What resolving a path promises. `text` is the text of all: it is not read, so that the promise holds for any.
-- Assumes nothing.
use Rattle.std.specs.Prelude.{◌≡◌, List, ℕ, ◌+◌, ◌-◌, ◌*◌, ◌^◌, ◌≤◌, take, Option as Answer, Some, None}
use Rattle.std.proofs.Math.Option.{Option, none, some}
use Rattle.orders.specs.Tree.{Tree, Path, resolve}
use Rattle.rows_model.specs.Row.{Row, rows_of, first_rows, triples, bytes}
use Rattle.rows_model.specs.Place.{place, follow}
use Rattle.rows_path.specs.Offset.{offset}
use Rattle.rows_path.specs.declared.Passed.{Passed}
use Rattle.rows_path.specs.declared.Resolved.{Resolved}
use Rattle.rows_syntax_node.specs.Promises.{After}

-- the row after the next `owed` trees from row `at` on, before which so much more text stands
pub record Passes (rows : List ℕ) (n at owed : ℕ) (r : Passed) : Type 0 where
  pub after : After rows n at owed r.row
  pub text : (text : List ℕ) → bytes (take r.row (first_rows text n rows)) ≡ bytes (take at (first_rows text n rows)) + r.text
  pub small : r.text ≤ 2 ^ 32 * (r.row - at)

-- an element at a row, whose text starts at a place
abbrev pub at_row : ℕ → ℕ → Answer Resolved
at_row i s = Some (record { row = i; start = s })

-- a row and the text before it, or none
unfoldable pub resolved : List Row → Option ℕ → Answer Resolved
resolved rs none = None
resolved rs (some i) = at_row i (bytes (take i rs))

-- Note 7: "Resolving a path should also give, and promise, the element's text start in its tree"
unfoldable pub standing : Path → Tree ℕ → Option (Tree ℕ) → Answer Resolved
standing p t none = None
standing p t (some u) = at_row (place p t) (offset p t)

-- THE PROMISE of resolving a path
pub record Resolves (tree path : List ℕ) (r : Answer Resolved) : Type 0 where
  -- of any words: the row to which the path leads, and the text of the rows before it
  pub rows : (text : List ℕ) → r ≡ resolved (triples text tree) (follow (triples text tree) 0 path)
  -- of the rows of a tree: the element's row, and where its text starts
  pub element : (text : List ℕ) (t : Tree ℕ) → triples text tree ≡ rows_of t → r ≡ standing path t (resolve path t)
