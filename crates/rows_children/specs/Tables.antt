-- What the tables tell. `text` is the text of all: it is not read, so that each promise holds for any.
-- Assumes nothing.
use Rattle.std.specs.Prelude.{◌≡◌, List, ℕ, ◌+◌, ◌<◌, get_or, drop, Option as Answer, Some, None}
use Rattle.std.proofs.Math.Option.{Option, none, some}
use Rattle.std.proofs.Math.ListN.{get_elem?}
use Rattle.std.proofs.Props.{props}
use Rattle.orders.specs.Tree.{Tree, Path, resolve}
use Rattle.rows_model.specs.Row.{Row, owes, rows_of, first_rows, trees_in}
use Rattle.rows_model.specs.Place.{place, child_row}

-- each child that stands among the rows stands where `first` tells of its parent
pub record ChildrenTold (rows : List ℕ) (n : ℕ) (first child : List ℕ) : Type 0 where
  pub told : (text : List ℕ) (r i : ℕ) (x : Row) → get_elem? (first_rows text n rows) r ≡ some x → i < owes x → child_row (first_rows text n rows) r i < n
      → get_or child (get_or first r 0 + i) 0 ≡ child_row (first_rows text n rows) r i

-- there is at most one proof of it, so that it can be a field
pub children_prop : (rows : List ℕ) (n : ℕ) (first child : List ℕ) → IsProp (ChildrenTold rows n first child)
children_prop rows n first child = hlevel props

-- how many trees begin from each row on
pub record BegunTold (rows : List ℕ) (n : ℕ) (begun : List ℕ) : Type 0 where
  pub told : (text : List ℕ) (r : ℕ) → r < n → get_or begun r 0 ≡ trees_in (drop r (first_rows text n rows))

pub begun_prop : (rows : List ℕ) (n : ℕ) (begun : List ℕ) → IsProp (BegunTold rows n begun)
begun_prop rows n begun = hlevel props

-- the row of an element, if there is one
unfoldable pub row_by : Path → Tree ℕ → Option (Tree ℕ) → Answer ℕ
row_by p t none = None
row_by p t (some u) = Some (place p t)

-- of the rows of a tree: the row of the element to which the path leads
abbrev pub RowAt : List ℕ → ℕ → List ℕ → Answer ℕ → Type 0
RowAt rows n path r = (text : List ℕ) (t : Tree ℕ) → first_rows text n rows ≡ rows_of t → r ≡ row_by path t (resolve path t)
