-- What planning needs of a change, from the words of the element table.
-- Assumes nothing.
use Rattle.std.specs.Prelude.{Bool, ◌&&◌, List, ◌≡◌, get_or, eqb}
use Rattle.std.proofs.Math.Bool.{true, false, cond}
use Rattle.std.proofs.Math.Path.{refl}
use Rattle.std.proofs.Common.{ap}
use Prim.Native.Nat.{ℕ, suc, ◌+◌, ◌-◌, ◌*◌, ◌^◌, ◌<◌}
use Rattle.definition.specs.Elements.{Table, row, tree, is_node}
use Rattle.definition.specs.Recording.{Change, insert, replace, delete, replace_with_many, replace_all}
use Rattle.definition.specs.Planning.{target, from, to, above, parent_depth, adds_region, node_by_node}
use Rattle.read_element_table.specs.View.{view, row_at, field}
use Rattle.read_element_table.specs.Wellformed.{Wellformed}
use Rattle.read_element_table.specs.Told.{row_view, root_told, depth_told, tree_told, node_told}
use Rattle.record_changes.specs.ChangeRow.{ChangeRow, region_of}
use Rattle.record_changes.specs.Numbers.{place_of, numbers_of, region_number, row_with}
use Rattle.record_changes.specs.declared.Place.{Place}
use Rattle.record_changes.specs.declared.Place.TheVariants.{FirstChild, After}
use Rattle.record_changes.specs.declared.Region.{Region}
use Rattle.record_changes.specs.declared.Region.TheVariants.{None, Discarding, NodeByNode}
use Rattle.record_changes.specs.declared.Change as code
use Rattle.record_changes.specs.declared.Numbers.{Numbers}
use Rattle.record_changes.specs.declared.Spot.{Spot}

-- the region that a change adds, by its number
unfoldable pub region_told : Table → Change → Region
region_told T c = cond (node_by_node T c) NodeByNode (cond (adds_region T c) Discarding None)

pub region_numbered : (T : Table) (c : Change) → region_number (region_told T c) ≡ region_of T c
unfolding region_told region_of
region_numbered T c = go (node_by_node T c) (adds_region T c)
  where
    go : (a b : Bool) → region_number (cond a NodeByNode (cond b Discarding None)) ≡ cond a 2 (cond b 1 0)
    go true b = refl
    go false true = refl
    go false false = refl

-- what planning needs of a change
unfoldable pub spot_of : Table → Change → Spot
spot_of T c = record { tree = tree T (target c); from = from T c; to = to T c; depth = parent_depth T c; region = region_number (region_told T c) }

-- the row of a change by its numbers, the rest told as the definition has it
unfoldable pub row_told : Numbers → Table → Change → ℕ → ChangeRow
row_told m T c n = record {
  operation = m.operation;
  target = m.target;
  end = m.end;
  list = m.list;
  count = m.count;
  tree = tree T (target c);
  from = from T c;
  to = to T c;
  depth = parent_depth T c;
  rank = m.rank;
  region = region_of T c;
  fate = 0;
  owner = 0;
  rule = n;
}

pub row_told_lem : (m : Numbers) (T : Table) (c : Change) (n : ℕ) → row_with m (spot_of T c) n ≡ row_told m T c n
unfolding row_with spot_of row_told
row_told_lem m T c n = rw (region_numbered T c)

-- each number fits a word
pub record SpotFits (s : Spot) : Type 0 where
  pub tree : s.tree < 2 ^ 32
  pub from : s.from < 2 ^ 32
  pub to : s.to < 2 ^ 32
  pub depth : s.depth < 2 ^ 32
  pub region : s.region < 2 ^ 32

-- the target and the run's end are elements
pub record Named (n : ℕ) (c : code.Change) : Type 0 where
  pub target : (numbers_of c).target < n
  pub end : (numbers_of c).end < n

-- ── By the words ────────────────────────────────────────────────────────────────────────────────────────────

-- in the tree of x, from word a of x to word b of y
abbrev pub spot_in : List ℕ → ℕ → ℕ → ℕ → ℕ → ℕ → Region → Spot
spot_in w x a y b d r = record { tree = get_or w (8 * x + 7) 0; from = get_or w (8 * x + a) 0; to = get_or w (8 * y + b) 0; depth = d; region = region_number r }

-- the depth of the parent; of a root, its own
unfoldable pub above_word : List ℕ → ℕ → ℕ
above_word w x = cond (eqb (get_or w (8 * x + 1) 0) 0) (get_or w (8 * x + 3) 0) (get_or w (8 * x + 3) 0 - 1)

-- an insertion there
abbrev pub insertion_in : List ℕ → Place → ℕ → Spot
insertion_in w FirstChild x = spot_in w x 4 x 4 (get_or w (8 * x + 3) 0) None
insertion_in w After x = spot_in w x 5 x 5 (above_word w x) None

-- a replacement of x, or of the run from x to y
abbrev pub run_in : List ℕ → ℕ → ℕ → Region → Spot
run_in w x y r = spot_in w x 4 y 5 (above_word w x) r

-- the region of a change of x, if it is a node: r
unfoldable pub region_by : List ℕ → ℕ → Region → Region
region_by s x r = cond (is_node (get_or s (3 * suc x) 0)) r None

-- the region of a replacement of a node by y
unfoldable pub region_under : List ℕ → ℕ → Region
region_under s y = cond (is_node (get_or s (3 * suc y) 0)) NodeByNode Discarding

module _ (n : ℕ) (w s : List ℕ) (W : Wellformed n w s) (x : ℕ) (h : x < n) where
  start_told : (row (view n w s) x).start ≡ get_or w (8 * x + 4) 0
  unfolding row_at field
  start_told = rw (row_view n w s x h)

  end_told : (row (view n w s) x).end ≡ get_or w (8 * x + 5) 0
  unfolding row_at field
  end_told = rw (row_view n w s x h)

  above_told : above (view n w s) x ≡ above_word w x
  unfolding above above_word
  above_told = rw (root_told n w s W.lines x h, depth_told n w s W.lines x h)

module _ (n : ℕ) (w s : List ℕ) (W : Wellformed n w s) (x : ℕ) (h : x < n) where
  abbrev T : Table
  T = view n w s

  pub spot_insert : (p : Place) (l : List ℕ) → insertion_in w p x ≡ spot_of T (insert (place_of p) x l)
  unfolding spot_of target from to parent_depth region_told adds_region node_by_node
  spot_insert FirstChild l = rw (tree_told n w s W.lines x h, start_told n w s W x h, depth_told n w s W.lines x h)
  spot_insert After l = rw (tree_told n w s W.lines x h, end_told n w s W x h, above_told n w s W x h)

  pub spot_delete : run_in w x x (region_by s x Discarding) ≡ spot_of T (delete x)
  unfolding spot_of target from to parent_depth region_told adds_region node_by_node region_by
  spot_delete = rw (tree_told n w s W.lines x h, start_told n w s W x h, end_told n w s W x h, above_told n w s W x h, node_told n w s x h)

  pub spot_many : (l : List ℕ) → run_in w x x (region_by s x Discarding) ≡ spot_of T (replace_with_many x l)
  unfolding spot_of target from to parent_depth region_told adds_region node_by_node region_by
  spot_many l = rw (tree_told n w s W.lines x h, start_told n w s W x h, end_told n w s W x h, above_told n w s W x h, node_told n w s x h)

  module _ (y : ℕ) (k : y < n) where
    pub spot_replace : run_in w x x (region_by s x (region_under s y)) ≡ spot_of T (replace x y)
    unfolding spot_of target from to parent_depth region_told adds_region node_by_node region_by region_under
    spot_replace =
        rw (tree_told n w s W.lines x h, start_told n w s W x h, end_told n w s W x h, above_told n w s W x h, node_told n w s x h, node_told n w s y k)
        (ap (λ (z : Region). run_in w x x z) (go (is_node (get_or s (3 * suc x) 0)) (is_node (get_or s (3 * suc y) 0))))
      where
        go : (a b : Bool) → cond a (cond b NodeByNode Discarding) None ≡ cond (a && b) NodeByNode (cond a Discarding None)
        go true true = refl
        go true false = refl
        go false b = refl

    pub spot_run : (l : List ℕ) → run_in w x y Discarding ≡ spot_of T (replace_all x y l)
    unfolding spot_of target from to parent_depth region_told adds_region node_by_node
    spot_run l = rw (tree_told n w s W.lines x h, start_told n w s W x h, end_told n w s W y k, above_told n w s W x h)
