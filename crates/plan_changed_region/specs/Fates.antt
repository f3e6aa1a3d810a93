-- What becomes of each change, on sorted rows, and that it is what the definition says.
-- Assumes nothing.
use Rattle.std.specs.Prelude.{◌≡◌, Bool, true, false, cond, not, ◌&&◌, ℕ, suc, get_or, set, replicate, eqb}
use Rattle.std.proofs.Math.Path.{refl}
use Rattle.std.proofs.Common.{ap}
use mathlib.Core.List.{List, [], ◌∷◌, map, zip_with}
use Rattle.definition.specs.Elements.{Table, node?}
use Rattle.definition.specs.Recording.{Change, insert, replace, delete, replace_with_many, replace_all}
use Rattle.definition.specs.Planning.{Fate, dependent, discarded, is_discarded, Region, around, fate, from, to, adds_region, node_by_node, inner, pushed, fates_from, fates}
use Rattle.record_changes.specs.ChangeRow.{ChangeRow, region_of}
use Rattle.plan_sort.specs.Rows.{with_fate, Tells}

-- ── On rows ─────────────────────────────────────────────────────────────────────────────────────────────────

-- "Only an undiscarded call 2 of a node by a node makes inner changes dependent; all other regions discard them." (the row r has place k and fate f)
unfoldable pub row_inner : ℕ → Fate → ChangeRow → Fate
row_inner k f r = cond (not (is_discarded f) && eqb r.region 2) (dependent k) (discarded k)

-- the region of the row r at place k, whose fate is f
unfoldable pub row_region : ℕ → Fate → ChangeRow → Region
row_region k f r = record { from = r.from; to = r.to; inner = row_inner k f r }

-- the stack after the row r at place k, whose regions around it are rs
unfoldable pub row_pushed : ℕ → ChangeRow → List Region → List Region
row_pushed k r rs = cond (eqb r.region 0) rs (row_region k (fate rs) r ∷ rs)

-- "Regions stand in a stack per tree": sorted rows from place k on, with the stacks
unfoldable pub rows_fates : ℕ → List (List Region) → List ChangeRow → List ChangeRow
rows_fates k stacks [] = []
rows_fates k stacks (r ∷ rs) =
    let over = around r.from r.to (get_or stacks r.tree []) in
    with_fate r (fate over) ∷ rows_fates (suc k) (set stacks r.tree (row_pushed k r over)) rs

-- at most 16 trees, each with an empty stack at first
unfoldable pub planned_rows : List ChangeRow → List ChangeRow
planned_rows rs = rows_fates 0 (replicate 16 []) rs

-- ── The definition's fates ──────────────────────────────────────────────────────────────────────────────────

adds_none : (a : Bool) → eqb (cond a 1 0) 0 ≡ not a
adds_none true = refl
adds_none false = refl

adds_both : (a b : Bool) → eqb (cond (a && b) 2 (cond a 1 0)) 0 ≡ not a
adds_both true true = refl
adds_both true false = refl
adds_both false b = refl

discards : (a : Bool) → eqb (cond a 1 0) 2 ≡ false
discards true = refl
discards false = refl

owns_both : (a b : Bool) → eqb (cond (a && b) 2 (cond a 1 0)) 2 ≡ (a && b)
owns_both true true = refl
owns_both true false = refl
owns_both false b = refl

-- the region word is 0 for a change that adds none, and 2 for a "call 2 of a node by a node"
pub region_none : (T : Table) (c : Change) → eqb (region_of T c) 0 ≡ not (adds_region T c)
unfolding region_of adds_region node_by_node
region_none T (insert p x l) = refl
region_none T (replace x y) = adds_both (node? T x) (node? T y)
region_none T (delete x) = adds_none (node? T x)
region_none T (replace_with_many x l) = adds_none (node? T x)
region_none T (replace_all x y l) = refl

pub region_owns : (T : Table) (c : Change) → eqb (region_of T c) 2 ≡ node_by_node T c
unfolding region_of adds_region node_by_node
region_owns T (insert p x l) = refl
region_owns T (replace x y) = owns_both (node? T x) (node? T y)
region_owns T (delete x) = discards (node? T x)
region_owns T (replace_with_many x l) = discards (node? T x)
region_owns T (replace_all x y l) = refl

cond_not : {X : Type 0} (b : Bool) (x y : X) → cond (not b) x y ≡ cond b y x
cond_not true x y = refl
cond_not false x y = refl

pub pushed_told : (T : Table) (k : ℕ) (r : ChangeRow) (c : Change) (rs : List Region) → Tells T r c → row_pushed k r rs ≡ pushed T k c rs
unfolding row_pushed row_region row_inner pushed inner
pushed_told T k r c rs t =
    rw (t.region_told, region_none T c, region_owns T c, t.from_told, t.to_told)
    (cond_not (adds_region T c) rs (record { from = from T c; to = to T c; inner = inner T k (fate rs) c } ∷ rs))

-- things that have a row and a change each
module _ (T : Table) {X : Type 0} (row : X → ChangeRow) (change : X → Change) (tells : (x : X) → Tells T (row x) (change x)) where
  from_told_lem : (k : ℕ) (stacks : List (List Region)) (xs : List X) → rows_fates k stacks (map row xs) ≡ zip_with (λ x f. with_fate (row x) f) xs (fates_from T k stacks (map change xs))
  unfolding rows_fates fates_from zip_with
  from_told_lem k stacks [] = refl
  from_told_lem k stacks (x ∷ xs) =
      let t = tells x in
      let over : List Region = around (row x).from (row x).to (get_or stacks (row x).tree []) in
      rw (← t.from_told, ← t.to_told, ← t.tree_told, ← pushed_told T k (row x) (change x) over t)
      (ap {B = List ChangeRow} (λ r. with_fate (row x) (fate over) ∷ r) (from_told_lem (suc k) (set stacks (row x).tree (row_pushed k (row x) over)) xs))

  -- each row gets the fate that the definition gives its change
  pub fates_told : (xs : List X) → planned_rows (map row xs) ≡ zip_with (λ x f. with_fate (row x) f) xs (fates T (map change xs))
  unfolding planned_rows fates
  fates_told xs = from_told_lem 0 (replicate 16 []) xs
