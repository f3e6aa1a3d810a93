-- The fate of one change after another, with the stacks in the rows' own words.
-- Assumes nothing.
use Rattle.std.specs.Prelude.{◌≡◌, refl, Bool, not, ◌&&◌, List, [], ◌∷◌, map, length, get_or, set, drop, eqb}
use Rattle.std.proofs.Math.Path.{sym, ap}
use Rattle.std.proofs.Common.{◌∙◌}
use Rattle.std.proofs.Math.Bool.{true, false, cond}
use Rattle.std.proofs.Math.Logic.{⊎_elim}
use Prim.Native.Nat.{ℕ, zero, suc, ◌+◌, ◌*◌, ◌≤◌, ◌<◌}
use native.Mathlib.Omega.{arith}
use Rattle.std.proofs.Math.ListN.{get_or-map}
use Rattle.orders.specs.Lists.{All}
use Rattle.orders.specs.ListLaws.{All-map, All-set, lt_or_le}
use Rattle.definition.specs.Planning.{Fate, dependent, discarded, is_discarded, around, fate}
use Rattle.record_changes.specs.ChangeRow.{ChangeRow, rows_of, fate_of, owner_of}
use Rattle.record_changes.specs.ChangeRowLaws.{row_at, rows_from}
use Rattle.plan_sort.specs.Rows.{row_fate, with_fate, fate_stated}
use Rattle.plan_changed_region.specs.Fates.{row_inner, row_region, row_pushed, rows_fates}
use Rattle.plan_changed_region.specs.Stacks.{outer, region_at, stack_to, enclosing, Outward, stated, stack_last, stack_before, stack_none, stack_lift, enclosing_most, enclosing_around, stated_row, stated_before, stated_after}

-- ── One change ──────────────────────────────────────────────────────────────────────────────────────────────

-- the place of the region around the row at place k (index + 1; 0 = none), by the places of the last regions of each tree
unfoldable pub region_around : List ℕ → List ℕ → ℕ → ℕ
region_around w tops k = let r = row_at w k in enclosing r.from r.to w k (get_or tops r.tree 0)

-- the rows after the one at place k has its fate
unfoldable pub next_rows : List ℕ → List ℕ → ℕ → List ℕ
next_rows w tops k = stated w k (fate (stack_to w k (region_around w tops k)))

-- the last regions after it
unfoldable pub next_tops : List ℕ → List ℕ → ℕ → List ℕ
next_tops w tops k = let r = row_at w k in set tops r.tree (cond (eqb r.region 0) (region_around w tops k) (suc k))

-- ── Lists ───────────────────────────────────────────────────────────────────────────────────────────────────

map_set : {X Y : Type 0} (f : X → Y) (l : List X) (i : ℕ) (x : X) → map f (set l i x) ≡ set (map f l) i (f x)
map_set f [] i x = refl
map_set f (y ∷ l) zero x = refl
map_set {Y = Y} f (y ∷ l) (suc i) x = ap {B = List Y} (λ r. f y ∷ r) (map_set f l i x)

map_same : {X Y : Type 0} (f g : X → Y) (l : List X) → All (λ x. f x ≡ g x) l → map f l ≡ map g l
map_same f g [] h = refl
map_same f g (x ∷ l) h = rw (h.0, map_same f g l h.1)

-- ── What a stack's last region makes of a change ────────────────────────────────────────────────────────────

inner_outer : (j : ℕ) (r s : ChangeRow) (f : Fate) → outer (with_fate r (row_inner j f s)) ≡ suc j
unfolding outer with_fate row_inner fate_of owner_of
inner_outer j r s f = go (not (is_discarded f) && eqb s.region 2)
  where
    go : (b : Bool) → outer (with_fate r (cond b (dependent j) (discarded j))) ≡ suc j
    go true = refl
    go false = refl

-- the fate names the last region
pub fate_names : (w : List ℕ) (k p : ℕ) (r : ChangeRow) → p ≤ k → outer (with_fate r (fate (stack_to w k p))) ≡ p
unfolding fate outer with_fate fate_of region_at row_region
fate_names w k zero r h = rw (stack_none w k)
fate_names w k (suc j) r h = rw (stack_lift w k (suc j) h, stack_last w j) (inner_outer j r (row_at w j) (row_fate (row_at w j)))

-- the same stack in words whose rows are the same
pub stack_same : (w v : List ℕ) (k p : ℕ) → ((j : ℕ) → j < k → row_at w j ≡ row_at v j) → stack_to w k p ≡ stack_to v k p
unfolding stack_to region_at
stack_same w v zero p h = refl
stack_same w v (suc j) p h = rw (h j (omega arith), stack_same w v j p (λ i b. h i (omega arith)), stack_same w v j (outer (row_at v j)) (λ i b. h i (omega arith)))

-- the region of a row goes by its stated fate
pub region_of : (w : List ℕ) (k : ℕ) (r : ChangeRow) (f : Fate) → row_at w k ≡ with_fate r f → region_at w k ≡ row_region k f r
unfolding region_at row_region row_inner with_fate
region_of w k r f e = rw (e, fate_stated r f)

-- ── The step ────────────────────────────────────────────────────────────────────────────────────────────────

module _ (w tops : List ℕ) (k : ℕ) (h : 14 * k + 14 ≤ length w) (low : All (λ q. q ≤ k) tops) where
  abbrev p : ℕ
  p = region_around w tops k

  abbrev f : Fate
  f = fate (stack_to w k p)

  abbrev r : ChangeRow
  r = row_at w k

  abbrev w' : List ℕ
  w' = next_rows w tops k

  p_low : p ≤ k
  unfolding region_around
  p_low = enclosing_most r.from r.to w k (get_or tops r.tree 0)

  next_row : row_at w' k ≡ with_fate r f
  unfolding next_rows
  next_row = stated_row w k f h

  pub next_before : (j : ℕ) → j < k → row_at w' j ≡ row_at w j
  unfolding next_rows
  next_before j b = stated_before w k f h j b

  next_outer : outer (row_at w' k) ≡ p
  next_outer = rw next_row (fate_names w k p r p_low)

  -- what the definition leaves of the stack of its tree
  over : around r.from r.to (get_or (map (stack_to w k) tops) r.tree []) ≡ stack_to w k p
  unfolding region_around
  over =
      ap (around r.from r.to) (ap (get_or (map (stack_to w k) tops) r.tree) (sym (stack_none w k)) ∙ get_or-map (stack_to w k) tops r.tree 0)
      ∙ sym (enclosing_around r.from r.to w k (get_or tops r.tree 0))

  stack_kept : (q : ℕ) → q ≤ k → stack_to w' (suc k) q ≡ stack_to w k q
  stack_kept q b = stack_before w' k q b ∙ stack_same w' w k q next_before

  stack_next : stack_to w' (suc k) (cond (eqb r.region 0) p (suc k)) ≡ row_pushed k r (stack_to w k p)
  unfolding row_pushed
  stack_next = go (eqb r.region 0)
    where
      go : (b : Bool) → stack_to w' (suc k) (cond b p (suc k)) ≡ cond b (stack_to w k p) (row_region k f r ∷ stack_to w k p)
      go true = stack_kept p p_low
      go false = stack_last w' k ∙ rw (region_of w' k r f next_row, next_outer, stack_same w' w k p next_before)

  pub stacks_next : map (stack_to w' (suc k)) (next_tops w tops k) ≡ set (map (stack_to w k) tops) r.tree (row_pushed k r (stack_to w k p))
  unfolding next_tops
  stacks_next =
      map_set (stack_to w' (suc k)) tops r.tree (cond (eqb r.region 0) p (suc k))
      ∙ rw (stack_next, map_same (stack_to w' (suc k)) (stack_to w k) tops (All-map (λ q b. stack_kept q b) tops low))

  pub next_rest : drop (14 * suc k) w' ≡ drop (14 * suc k) w
  unfolding next_rows
  next_rest = stated_after w k f h

  -- the row at place k has its fate, and the rest of the fates follow from the new stacks
  pub fates_next : (m : ℕ) → rows_fates k (map (stack_to w k) tops) (rows_of (suc m) (drop (14 * k) w))
      ≡ row_at w' k ∷ rows_fates (suc k) (map (stack_to w' (suc k)) (next_tops w tops k)) (rows_of m (drop (14 * suc k) w'))
  unfolding rows_fates
  fates_next m = rw (rows_from w k m, over, next_row, stacks_next, next_rest)

  -- the regions stay around later changes only, and the last ones among those passed
  pub outward_next : Outward w k → Outward w' (suc k)
  unfolding Outward
  outward_next out j b = ⊎_elim (λ lt. rw (next_before j lt) (out j lt)) (λ ge. let e : j ≡ k = omega arith in rw (e, next_outer) p_low) (lt_or_le j k)

  pub tops_next : All (λ q. q ≤ suc k) (next_tops w tops k)
  unfolding next_tops
  tops_next = All-set (λ q. q ≤ suc k) tops r.tree (cond (eqb r.region 0) p (suc k)) (go (eqb r.region 0)) (All-map (λ q b. omega arith) tops low)
    where
      go : (b : Bool) → cond b p (suc k) ≤ suc k
      go true = omega (arith, p_low)
      go false = omega arith
