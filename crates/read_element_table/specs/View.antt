-- What the words of the element table and of the batch's rows tell of each element.
-- Eight words an element: text offset, parent + 1 (0 for a root), child number (a root's is its tree's number), depth, text start and end in its own tree,
-- the element after its subtree, tree number. Three words a row: kind word, measure, text offset; element e stands at row e + 1.
-- Assumes nothing.
use Rattle.std.specs.Prelude.{cond, List, [], ◌∷◌, ◌++◌, map, ℕ, zero, suc, ◌+◌, ◌*◌, get_or}
use Rattle.orders.specs.Tree.{Path}
use Rattle.definition.specs.Elements.{Row, Table, is_node}
use Rattle.definition_laws.specs.Basics.{up_from}

module _ (words rows : List ℕ) where
  -- word k of element e
  unfoldable pub field : ℕ → ℕ → ℕ
  field k e = get_or words (8 * e + k) 0

  -- e, its parent, and so on, n of them at most
  unfoldable pub line_from : ℕ → ℕ → List ℕ
  line_from zero e = []
  line_from (suc n) e = e ∷ elim (field 1 e) [ zero ↦ [] | suc p ↦ line_from n p ]

  -- the child numbers down to e, from n ancestors at most
  unfoldable pub path_to : ℕ → ℕ → Path
  path_to zero e = []
  path_to (suc n) e = elim (field 1 e) [ zero ↦ [] | suc p ↦ path_to n p ] ++ (field 2 e ∷ [])

  -- the kind word and the measure of element e
  unfoldable pub kind_word : ℕ → ℕ
  kind_word e = get_or rows (3 * suc e) 0

  unfoldable pub measure_word : ℕ → ℕ
  measure_word e = get_or rows (3 * suc e + 1) 0

  -- n siblings, from e on
  unfoldable pub siblings : ℕ → ℕ → List ℕ
  siblings zero e = []
  siblings (suc n) e = e ∷ siblings n (field 6 e)

  -- what is told of element e
  unfoldable pub row_at : ℕ → Row
  row_at e = record {
    kind = kind_word e;
    line = line_from (field 3 e) e;
    path = path_to (field 3 e) e;
    start = field 4 e;
    end = field 5 e;
    children = siblings (cond (is_node (kind_word e)) (measure_word e) 0) (suc e);
  }

-- what is told of n elements
unfoldable pub view : ℕ → List ℕ → List ℕ → Table
view n words rows = map (row_at words rows) (up_from 0 n)
