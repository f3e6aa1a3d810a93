-- The stacks of regions in the rows' own words. The region around a change is the one that its fate names, so a stack is its last region's place, and each
-- region's owner is the region below it.
-- Assumes nothing.
use Rattle.std.specs.Prelude.{◌≡◌, Bool, ◌&&◌, length, get_or, drop, leb, eqb}
use Rattle.std.proofs.Math.Path.{refl, ap}
use Rattle.std.proofs.Common.{sym, ◌∙◌, ⊎_elim, length-set, length-drop, eq-eqb, ne_eqb, get_or-set_same}
use Rattle.std.proofs.Math.Bool.{true, false, cond}
use mathlib.Core.List.{List, [], ◌∷◌}
use Prim.Native.Nat.{ℕ, zero, suc, ◌+◌, ◌*◌, ◌≤◌, ◌<◌}
use native.Mathlib.Omega.{arith}
use Rattle.orders.specs.ListLaws.{lt_or_le}
use Rattle.std.proofs.Math.ListN.{set}
use Rattle.std.proofs.Math.Seq.{get_or-drop, drop-set-lt, drop-set-add, get_or-set_other}
use Rattle.definition.specs.Planning.{Fate, Region, around}
use Rattle.record_changes.specs.ChangeRow.{ChangeRow, row_of, fate_of, owner_of}
use Rattle.record_changes.specs.ChangeRowLaws.{row_at, row_ext}
use Rattle.plan_sort.specs.Rows.{row_fate, with_fate}
use Rattle.plan_changed_region.specs.Fates.{row_region}

-- ── Stacks ──────────────────────────────────────────────────────────────────────────────────────────────────

-- the place of the region around a change, index + 1; 0 = none
unfoldable pub outer : ChangeRow → ℕ
outer r = cond (eqb r.fate 0) 0 (suc r.owner)

-- the region of the row at place j
unfoldable pub region_at : List ℕ → ℕ → Region
region_at w j = row_region j (row_fate (row_at w j)) (row_at w j)

-- the stack whose last region is at the place p (index + 1; 0 = none), among the rows before place k
unfoldable pub stack_to : List ℕ → ℕ → ℕ → List Region
stack_to w zero p = []
stack_to w (suc j) p = cond (eqb p (suc j)) (region_at w j ∷ stack_to w j (outer (row_at w j))) (stack_to w j p)

-- the range of r contains the one from a to b, "ends included"
unfoldable pub contains : ChangeRow → ℕ → ℕ → Bool
contains r a b = leb r.from a && leb b r.to

-- of that stack, the last region that contains the range from a to b: its place, index + 1; 0 = none
unfoldable pub enclosing : ℕ → ℕ → List ℕ → ℕ → ℕ → ℕ
enclosing a b w zero p = 0
enclosing a b w (suc j) p =
    let out = enclosing a b w j (outer (row_at w j)) in
    let here = cond (contains (row_at w j) a b) (suc j) out in
    let before = enclosing a b w j p in
    cond (eqb p (suc j)) here before

-- each region is around later changes only
unfoldable pub Outward : List ℕ → ℕ → Type 0
Outward w k = (j : ℕ) → j < k → outer (row_at w j) ≤ j

-- the row at place k with the fate f
unfoldable pub stated : List ℕ → ℕ → Fate → List ℕ
stated w k f = set (set w (14 * k + 11) (fate_of f)) (14 * k + 12) (owner_of f)

-- ── Laws on stacks ──────────────────────────────────────────────────────────────────────────────────────────

-- what does not change as rows are added, from the row that it begins with on
lift : {X : Type 0} (f : ℕ → ℕ → X) → ((j p : ℕ) → p ≤ j → f (suc j) p ≡ f j p) → (k p : ℕ) → p ≤ k → f k p ≡ f p p
lift f step zero p h = ap (λ (i : ℕ). f i p) (omega arith)
lift f step (suc k) p h = ⊎_elim (λ lt. step k p (omega arith) ∙ lift f step k p (omega arith)) (λ ge. ap (λ (i : ℕ). f i p) (omega arith)) (lt_or_le p (suc k))

module _ (w : List ℕ) where
  -- the last region, and what is below it
  pub stack_last : (j : ℕ) → stack_to w (suc j) (suc j) ≡ region_at w j ∷ stack_to w j (outer (row_at w j))
  unfolding stack_to
  stack_last j = rw (eq-eqb (suc j) (suc j) refl)

  -- a stack whose last region is before place j has nothing to do with the row there
  pub stack_before : (j p : ℕ) → p ≤ j → stack_to w (suc j) p ≡ stack_to w j p
  unfolding stack_to
  stack_before j p h = rw (ne_eqb p (suc j) (λ e. omega arith))

  pub stack_none : (k : ℕ) → stack_to w k 0 ≡ []
  unfolding stack_to
  stack_none zero = refl
  stack_none (suc j) = stack_before j 0 (omega arith) ∙ stack_none j

  pub stack_lift : (k p : ℕ) → p ≤ k → stack_to w k p ≡ stack_to w p p
  stack_lift k p h = lift (stack_to w) stack_before k p h

module _ (a b : ℕ) (w : List ℕ) where
  pub enclosing_before : (j p : ℕ) → p ≤ j → enclosing a b w (suc j) p ≡ enclosing a b w j p
  unfolding enclosing
  enclosing_before j p h = rw (ne_eqb p (suc j) (λ e. omega arith))

  pub enclosing_here : (j : ℕ) → enclosing a b w (suc j) (suc j) ≡ cond (contains (row_at w j) a b) (suc j) (enclosing a b w j (outer (row_at w j)))
  unfolding enclosing
  enclosing_here j = rw (eq-eqb (suc j) (suc j) refl)

  pub enclosing_lift : (k p : ℕ) → p ≤ k → enclosing a b w k p ≡ enclosing a b w p p
  enclosing_lift k p h = lift (enclosing a b w) enclosing_before k p h

  pub enclosing_most : (k p : ℕ) → enclosing a b w k p ≤ k
  unfolding enclosing
  enclosing_most zero p = omega arith
  enclosing_most (suc j) p = go (eqb p (suc j)) (contains (row_at w j) a b) (enclosing_most j)
    where
      go : (e c : Bool) → ((q : ℕ) → enclosing a b w j q ≤ j) → cond e (cond c (suc j) (enclosing a b w j (outer (row_at w j)))) (enclosing a b w j p) ≤ suc j
      go true true h = omega arith
      go true false h = omega (arith, h (outer (row_at w j)))
      go false c h = omega (arith, h p)

  around_last : (j : ℕ) (rs : List Region) (c : Bool) → contains (row_at w j) a b ≡ c → around a b (region_at w j ∷ rs) ≡ cond c (region_at w j ∷ rs) (around a b rs)
  unfolding around region_at row_region contains
  around_last j rs c e = rw e

  -- the stack of that region is what the definition leaves of the stack
  pub enclosing_around : (k p : ℕ) → stack_to w k (enclosing a b w k p) ≡ around a b (stack_to w k p)
  unfolding enclosing stack_to around
  enclosing_around zero p = refl
  enclosing_around (suc j) p = go (eqb p (suc j)) (contains (row_at w j) a b) refl (enclosing_around j)
    where
      out : ℕ
      out = outer (row_at w j)

      go : (e c : Bool) → contains (row_at w j) a b ≡ c → ((q : ℕ) → stack_to w j (enclosing a b w j q) ≡ around a b (stack_to w j q))
          → stack_to w (suc j) (cond e (cond c (suc j) (enclosing a b w j out)) (enclosing a b w j p)) ≡ around a b (cond e (region_at w j ∷ stack_to w j out) (stack_to w j p))
      go true true q h = stack_last w j ∙ sym (around_last j (stack_to w j out) true q)
      go true false q h = stack_before w j (enclosing a b w j out) (enclosing_most j out) ∙ (h out ∙ sym (around_last j (stack_to w j out) false q))
      go false c q h = stack_before w j (enclosing a b w j p) (enclosing_most j p) ∙ h p

-- ── A fate stated ───────────────────────────────────────────────────────────────────────────────────────────

module _ (w : List ℕ) (k : ℕ) (f : Fate) (h : 14 * k + 14 ≤ length w) where
  -- the words from the row on
  told : drop (14 * k) (stated w k f) ≡ set (set (drop (14 * k) w) 11 (fate_of f)) 12 (owner_of f)
  unfolding stated
  told = drop-set-add (14 * k) (set w (14 * k + 11) (fate_of f)) 12 (owner_of f) ∙ ap (λ (l : List ℕ). set l 12 (owner_of f)) (drop-set-add (14 * k) w 11 (fate_of f))

  same : (i : ℕ) → (i ≡ 11 → ⊥) → (i ≡ 12 → ⊥) → get_or (drop (14 * k) (stated w k f)) i 0 ≡ get_or (drop (14 * k) w) i 0
  same i a b =
      rw told
      (get_or-set_other (set (drop (14 * k) w) 11 (fate_of f)) 12 i (owner_of f) 0 b ∙ get_or-set_other (drop (14 * k) w) 11 i (fate_of f) 0 a)

  long : 12 < length (drop (14 * k) w)
  long = omega (arith, length-drop (14 * k) w)

  fate_word : get_or (drop (14 * k) (stated w k f)) 11 0 ≡ fate_of f
  fate_word =
      rw told
      (get_or-set_other (set (drop (14 * k) w) 11 (fate_of f)) 12 11 (owner_of f) 0 (λ e. omega arith) ∙ get_or-set_same (drop (14 * k) w) 11 (fate_of f) 0 (omega (arith, long)))

  owner_word : get_or (drop (14 * k) (stated w k f)) 12 0 ≡ owner_of f
  owner_word = rw told (get_or-set_same (set (drop (14 * k) w) 11 (fate_of f)) 12 (owner_of f) 0 (simp length-set long))

  pub stated_row : row_at (stated w k f) k ≡ with_fate (row_at w k) f
  unfolding row_at row_of with_fate
  stated_row = λ i. record { operation = same 0 (λ e. omega arith) (λ e. omega arith) i; target = same 1 (λ e. omega arith) (λ e. omega arith) i; end = same 2 (λ e. omega arith) (λ e. omega arith) i; list = same 3 (λ e. omega arith) (λ e. omega arith) i; count = same 4 (λ e. omega arith) (λ e. omega arith) i; tree = same 5 (λ e. omega arith) (λ e. omega arith) i; from = same 6 (λ e. omega arith) (λ e. omega arith) i; to = same 7 (λ e. omega arith) (λ e. omega arith) i; depth = same 8 (λ e. omega arith) (λ e. omega arith) i; rank = same 9 (λ e. omega arith) (λ e. omega arith) i; region = same 10 (λ e. omega arith) (λ e. omega arith) i; fate = fate_word i; owner = owner_word i; rule = same 13 (λ e. omega arith) (λ e. omega arith) i }

  pub stated_before : (j : ℕ) → j < k → row_at (stated w k f) j ≡ row_at w j
  unfolding row_at stated
  stated_before j b =
      row_ext (drop (14 * j) (stated w k f)) (drop (14 * j) w)
      (λ i z. rw (get_or-drop (14 * j) (stated w k f) i 0, get_or-drop (14 * j) w i 0)
      (get_or-set_other (set w (14 * k + 11) (fate_of f)) (14 * k + 12) (14 * j + i) (owner_of f) 0 (λ e. omega arith) ∙ get_or-set_other w (14 * k + 11) (14 * j + i) (fate_of f) 0 (λ e. omega arith)))

  pub stated_after : drop (14 * suc k) (stated w k f) ≡ drop (14 * suc k) w
  unfolding stated
  stated_after =
      drop-set-lt (14 * suc k) (set w (14 * k + 11) (fate_of f)) (14 * k + 12) (owner_of f) (omega arith) ∙ drop-set-lt (14 * suc k) w (14 * k + 11) (fate_of f) (omega arith)
