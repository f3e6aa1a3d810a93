-- Edge rule 1 on the words of the element table and of the change rows: which region takes a change, and what becomes of each.
-- Assumes nothing.
use Rattle.std.specs.Prelude.{Bool, true, false, cond, not, ◌&&◌, ◌||◌, List, map, ℕ, zero, suc, ◌+◌, ◌-◌, ◌*◌, get_or, leb, ltb, eqb}
use Rattle.definition.specs.Planning.{Fate, own, dependent, discarded}
use Rattle.definition_laws.specs.Basics.{up_from}
use Rattle.record_changes.specs.ChangeRow.{ChangeRow}
use Rattle.record_changes.specs.ChangeRowLaws.{row_at}
use Rattle.plan_sort.specs.Rows.{with_fate}

-- the change is a run from x to y
unfoldable pub is_run_of : ℕ → ℕ → ChangeRow → Bool
is_run_of x y c = eqb c.operation 5 && (eqb c.target x && eqb c.end y)

-- ── Which region takes a change, by the table's words w ─────────────────────────────────────────────────────

module _ (w : List ℕ) where
  -- word k of element e
  abbrev pub word : ℕ → ℕ → ℕ
  word k e = get_or w (8 * e + k) 0

  -- the parent of x; of a root, the root
  unfoldable pub parent_or_root : ℕ → ℕ
  parent_or_root x = cond (eqb (word 1 x) 0) x (word 1 x - 1)

  -- "Call 0's target parent is its target, a root's the root."
  unfoldable pub target_parent : ChangeRow → ℕ
  target_parent c = cond (eqb c.operation 0) c.target (parent_or_root c.target)

  -- the change is "a root's replacement"
  unfoldable pub of_root : ChangeRow → Bool
  of_root c = eqb c.operation 2 && eqb (word 1 c.target) 0

  -- e is one of the siblings from x to y
  unfoldable pub in_run : ℕ → ℕ → ℕ → Bool
  in_run x y e = eqb (word 1 e) (word 1 x) && leb (word 2 x) (word 2 e) && leb (word 2 e) (word 2 y)

  -- e is "at or below the replaced node or an element of the run": it stands from the first on, before the element after the last one's subtree
  unfoldable pub removes : ChangeRow → ℕ → Bool
  removes r e = leb r.target e && ltb e (word 6 r.end)

  -- "the change replaces only elements of the run" from x to y "or inserts between two of them"
  unfoldable pub only_in : ℕ → ℕ → ChangeRow → Bool
  only_in x y c =
      cond (eqb c.operation 0) false
      (cond (eqb c.operation 1) (in_run x y c.target && not (eqb c.target y))
      (in_run x y c.target && in_run x y c.end))

  -- r, at place j, is a run that has the change c, at place k, inside: "a run not .. itself or .. an equal one sorted later"
  unfoldable pub inside : ℕ → ChangeRow → ℕ → ChangeRow → Bool
  inside j r k c = eqb r.operation 5 && (only_in r.target r.end c && not (is_run_of r.target r.end c && leb k j))

  -- the change c, at place k, belongs to the region of r, at place j
  unfoldable pub takes : ℕ → ChangeRow → ℕ → ChangeRow → Bool
  takes j r k c = not (eqb r.region 0) && (not (of_root c) && (removes r (target_parent c) || inside j r k c))

  -- "the greatest depth of target parent, 0 for a root's replacement"
  unfoldable pub region_depth : ChangeRow → ℕ
  region_depth c = cond (of_root c) 0 c.depth

-- ── The innermost: regions by place, index + 1; 0 = none. The rows' words are v ─────────────────────────────

module _ (w v : List ℕ) (k : ℕ) where
  -- the region of the change at place k among the places from j on, if it is b among those behind j: "the greatest depth of target parent, .. and among equals
  -- the last in sorted order"
  unfoldable pub innermost : ℕ → ℕ → ℕ
  innermost j b =
      cond (takes w j (row_at v j) k (row_at v k)) (cond (eqb b 0 || ltb (region_depth w (row_at v (b - 1))) (region_depth w (row_at v j))) (suc j) b) b

  -- among m places from j on
  unfoldable pub region_from : ℕ → ℕ → ℕ
  region_from j zero = 0
  region_from j (suc m) = innermost j (region_from (suc j) m)

-- the region of each of n changes
unfoldable pub regions_of : List ℕ → List ℕ → ℕ → List ℕ
regions_of w v n = map (λ k. region_from w v k 0 n) (up_from 0 n)

-- ── Fates, by the region of each change ─────────────────────────────────────────────────────────────────────

module _ (v regions : List ℕ) where
  -- the change at place k is discarded, if the regions one around another that decide it are at most m: one of them is no "call 2 of a node by a node"
  unfoldable pub is_discarded : ℕ → ℕ → Bool
  is_discarded zero k = false
  is_discarded (suc m) k =
      let p = get_or regions k 0 in
      cond (eqb p 0) false (cond (eqb (row_at v (p - 1)).region 2) (is_discarded m (p - 1)) true)

  -- what becomes of the change at place k, if at most m regions decide it
  unfoldable pub fate_within : ℕ → ℕ → Fate
  fate_within m k =
      let p = get_or regions k 0 in
      cond (eqb p 0) own (cond (is_discarded m k) (discarded (p - 1)) (dependent (p - 1)))

module _ (w v regions : List ℕ) where
  -- what becomes of it
  unfoldable pub fate_at : ℕ → Fate
  fate_at k = fate_within v regions (suc (region_depth w (row_at v k))) k

  -- the row at place k with its fate
  abbrev pub fated_at : ℕ → ChangeRow
  fated_at k = with_fate (row_at v k) (fate_at k)

  -- n rows with their fates
  unfoldable pub fated_rows : ℕ → List ChangeRow
  fated_rows n = map fated_at (up_from 0 n)

-- RULE 1 of n rows
unfoldable pub edge_rows : List ℕ → ℕ → List ℕ → List ChangeRow
edge_rows w n v = fated_rows w v (regions_of w v n) n
