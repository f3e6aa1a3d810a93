-- Where an element stands in the rows of its tree, and what a splice does to rows and places.
-- Assumes nothing.
use Rattle.std.specs.Prelude.{◌≡◌, cond, List, [], ◌∷◌, ◌++◌, ℕ, suc, ◌+◌, ◌-◌, length, take, drop, ltb}
use Rattle.std.proofs.Math.Option.{Option, none, some, map, bind}
use Rattle.std.proofs.Math.ListN.{get_elem?}
use Rattle.orders.specs.Tree.{Tree, node, token, list, Path, resolve, zone, modify, shift, HasRun}
use Rattle.rows_model.specs.Row.{Row, tok, nod, outside, owes, rows_of, rows_all, skip}

-- ── Places in trees ─────────────────────────────────────────────────────────────────────────────────────────

-- the number of rows of a tree, and of trees
abbrev pub size : Tree ℕ → ℕ
size t = length (rows_of t)

abbrev pub size_all : List (Tree ℕ) → ℕ
size_all ts = length (rows_all ts)

abbrev pub or_zero : (Tree ℕ → ℕ) → Option (Tree ℕ) → ℕ
or_zero f none = 0
or_zero f (some t) = f t

-- the row of the element at a path; the root's is 0. A last child number that is one too high tells where the children end
abbrev pub place : Path → Tree ℕ → ℕ
place [] t = 0
place (i ∷ p) (token k x) = 0
place (i ∷ p) (node k cs) = suc (size_all (take i (list cs)) + or_zero (place p) (get_elem? (list cs) i))

-- the trees of a run
unfoldable pub run_of : {t : Tree ℕ} {q : Path} {a b : ℕ} → HasRun t q a b → List (Tree ℕ)
run_of {a = a} {b = b} h = take (b - a) (drop a (list h.children))

-- ── Places in rows ──────────────────────────────────────────────────────────────────────────────────────────

-- the row after the next `owed` trees from the row `at` on
unfoldable pub rows_after : List Row → ℕ → ℕ → ℕ
rows_after rs at owed = at + skip owed (drop at rs)

-- the row of child i of the node at the row `parent`
unfoldable pub child_row : List Row → ℕ → ℕ → ℕ
child_row rs parent i = rows_after rs (suc parent) i

-- the rows p up to q
unfoldable pub between : ℕ → ℕ → List Row → List Row
between p q rs = take (q - p) (drop p rs)

-- the element at the row `at` with all that is below it
unfoldable pub subtree : List Row → ℕ → List Row
subtree rs at = take (skip 1 (drop at rs)) (drop at rs)

-- the row to which a path leads from the row `at`; none where it leads to no element
unfoldable pub follow : List Row → ℕ → Path → Option ℕ
follow rs at [] = map (λ r. at) (get_elem? rs at)
follow rs at (i ∷ p) = bind (get_elem? rs at) (λ r. cond (ltb i (owes r)) (follow rs (child_row rs at i) p) none)

-- ── A splice of rows ────────────────────────────────────────────────────────────────────────────────────────

-- a parent that loses some children and gains others
abbrev pub remeasure : ℕ → ℕ → Row → Row
remeasure lost gained (tok k x) = tok k x
remeasure lost gained (nod k m) = nod k (m + gained - lost)
remeasure lost gained (outside k m) = outside k m

-- the rows p up to q, of `lost` trees below the row `parent`, give way to the rows `new`, of `gained` trees
unfoldable pub splice_rows : List Row → ℕ → ℕ → ℕ → ℕ → List Row → ℕ → List Row
splice_rows rs parent p q lost new gained = modify parent (remeasure lost gained) (take p rs ++ (new ++ drop q rs))

-- ── Marks ───────────────────────────────────────────────────────────────────────────────────────────────────

-- a place as a mark: 0 for none (the root of all stands there, and no element)
abbrev pub mark : Option ℕ → ℕ
mark none = 0
mark (some x) = x

-- the mark of an element, by its path
unfoldable pub mark_of : Tree ℕ → Option Path → ℕ
mark_of t o = mark (map (λ e. place e t) o)

-- what becomes of a mark where the rows p up to q give way to m others: below p it stays, from p to q - 1 it is gone, from q on it shifts
unfoldable pub moved_mark : ℕ → ℕ → ℕ → ℕ → ℕ
moved_mark p q m x = mark (shift p q m x)

-- a mark that is one of the rows p up to q, told from p on; none where it is not
unfoldable pub in_run : ℕ → ℕ → ℕ → Option ℕ
in_run p q x = zone x p q none (some (x - p)) none

-- a path that is lost, or leads to an element
abbrev pub Held : Tree ℕ → Option Path → Type 0
Held t none = Unit {0}
Held t (some e) = (u : Tree ℕ) × (resolve e t ≡ some u)
