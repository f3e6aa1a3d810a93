-- Which region takes a change, by words: it is what the definition says.
-- Assumes nothing.
use Rattle.std.specs.Prelude.{◌≡◌, Bool, cond, ◌&&◌, ◌||◌, List, length}
use Rattle.std.proofs.Math.Path.{refl, sym, ap}
use Rattle.std.proofs.Common.{◌∙◌}
use Rattle.std.proofs.Math.Bool.{true, false, not}
use Rattle.std.proofs.Math.Option
use Prim.Native.Nat.{ℕ, zero, suc, ◌+◌, ◌-◌, ◌*◌, ◌<◌}
use native.Mathlib.Omega.{arith}
use Rattle.std.proofs.Math.ListN.{get_or}
use Rattle.std.proofs.Math.Dec.{leb, ltb, eqb, eqb-suc-suc, eqb-suc-zero, eqb-zero-suc}
use Rattle.orders.specs.ListLaws.{bool_absurd}
use Rattle.definition.specs.Elements.{Table}
use Rattle.definition.specs.Refusals.{same_parent}
use Rattle.definition.specs.Recording.{first_child, after, Change, insert, replace, delete, replace_with_many, replace_all}
use Rattle.definition.specs.Planning.{target, adds_region, node_by_node}
use Rattle.definition.specs.EdgeRule as edge
use Rattle.definition_laws.specs.Right.{Sits}
use Rattle.read_element_table.specs.View.{view}
use Rattle.read_element_table.specs.Wellformed.{Wellformed}
use Rattle.read_element_table.specs.Told.{element_of, length_view, parent_told, root_told, child_told}
use Rattle.record_changes.specs.ChangeRow.{ChangeRow, operation, end_of, change_row}
use Rattle.plan_sort.specs.Rows.{Tells, row_tells}
use Rattle.plan_changed_region.specs.Fates.{region_none, region_owns}
use Rattle.plan_edge.specs.Rule.{word, parent_or_root, target_parent, of_root, in_run, removes, only_in, is_run_of, inside, takes, region_depth}

-- a row tells of a change all that rule 1 goes by
pub record Placed (T : Table) (r : ChangeRow) (c : Change) : Type 0 where
  pub tells : Tells T r c
  pub operation_told : r.operation ≡ operation c
  pub target_told : r.target ≡ target c
  pub end_told : r.end ≡ end_of c

pub row_placed : (T : Table) (at n : ℕ) (c : Change) → Placed T (change_row T at n c) c
unfolding change_row
row_placed T at n c = record { tells = row_tells T at n c; operation_told = refl; target_told = refl; end_told = refl }

-- two words name one parent
same_parent_lem : (a b : ℕ) → eqb a b ≡ same_parent (element_of a) (element_of b)
unfolding same_parent element_of
same_parent_lem zero zero = refl
same_parent_lem zero (suc b) = eqb-zero-suc b
same_parent_lem (suc a) zero = eqb-suc-zero a
same_parent_lem (suc a) (suc b) = eqb-suc-suc a b

and_same : (a : Bool) → (a && a) ≡ a
and_same true = refl
and_same false = refl

module _ (n : ℕ) (w s : List ℕ) (W : Wellformed n w s) where
  abbrev T : Table
  T = view n w s

  within : (x : ℕ) → x < length T → x < n
  within x h = omega (arith, length_view n w s)

  -- ── Elements ──

  in_run_lem : (x y e : ℕ) → x < n → y < n → e < n → in_run w x y e ≡ edge.in_run T x y e
  unfolding in_run edge.in_run
  in_run_lem x y e h k l =
      rw (
        parent_told n w s W.lines e l,
        parent_told n w s W.lines x h,
        child_told n w s W.lines x h,
        child_told n w s W.lines y k,
        child_told n w s W.lines e l,
        same_parent_lem (get_or w (8 * e + 1) 0) (get_or w (8 * x + 1) 0),
      )

  parent_or_root_lem : (x : ℕ) → x < n → (parent_or_root w x ≡ edge.parent_or_root T x) × (parent_or_root w x < n)
  unfolding parent_or_root edge.parent_or_root element_of
  parent_or_root_lem x h = rw (parent_told n w s W.lines x h) (go (get_or w (8 * x + 1) 0) refl)
    where
      go : (p : ℕ) → get_or w (8 * x + 1) 0 ≡ p → (cond (eqb p 0) x (p - 1) ≡ Option.get_or (element_of p) x) × (cond (eqb p 0) x (p - 1) < n)
      go zero e = (refl, h)
      go (suc q) e = rw (eqb-suc-zero q) (omega arith, omega (arith, W.lines.before x h))

  -- ── A change ──

  module _ (c : Change) (r : ChangeRow) (p : Placed T r c) (t : Sits T c) where
    pub parent_placed : (target_parent w r ≡ edge.target_parent T c) × (target_parent w r < n)
    unfolding target_parent edge.target_parent target operation
    parent_placed = rw (p.operation_told, p.target_told) (go c t)
      where
        go : (c : Change) → Sits T c → (cond (eqb (operation c) 0) (target c) (parent_or_root w (target c)) ≡ edge.target_parent T c) × (cond (eqb (operation c) 0) (target c) (parent_or_root w (target c)) < n)
        go (insert first_child x l) t = (refl, within x t.0)
        go (insert after x l) t = parent_or_root_lem x (within x t.0)
        go (replace x y) t = parent_or_root_lem x (within x t)
        go (delete x) t = parent_or_root_lem x (within x t.0)
        go (replace_with_many x l) t = parent_or_root_lem x (within x t.0)
        go (replace_all x y l) t = parent_or_root_lem x (within x t.0)

    pub root_placed : of_root w r ≡ edge.of_root T c
    unfolding of_root edge.of_root target operation
    root_placed = rw (p.operation_told, p.target_told) (go c t)
      where
        go : (c : Change) → Sits T c → (eqb (operation c) 2 && eqb (word w 1 (target c)) 0) ≡ edge.of_root T c
        go (insert first_child x l) t = refl
        go (insert after x l) t = refl
        go (replace x y) t = sym (root_told n w s W.lines x (within x t))
        go (delete x) t = refl
        go (replace_with_many x l) t = refl
        go (replace_all x y l) t = refl

    pub depth_placed : region_depth w r ≡ edge.region_depth T c
    unfolding region_depth edge.region_depth
    depth_placed = rw (root_placed, p.tells.depth_told)

    only_placed : (x y : ℕ) → x < n → y < n → only_in w x y r ≡ edge.only_in T x y c
    unfolding only_in edge.only_in target operation end_of
    only_placed x y h k = rw (p.operation_told, p.target_told, p.end_told) (go c t)
      where
        one : (e : ℕ) → e < n → (in_run w x y e && in_run w x y e) ≡ edge.in_run T x y e
        one e l = and_same (in_run w x y e) ∙ in_run_lem x y e h k l

        go : (c : Change) → Sits T c → cond (eqb (operation c) 0) false (cond (eqb (operation c) 1) (in_run w x y (target c) && not (eqb (target c) y)) (in_run w x y (target c) && in_run w x y (end_of c))) ≡ edge.only_in T x y c
        go (insert first_child e l) t = refl
        go (insert after e l) t = rw (in_run_lem x y e h k (within e t.0))
        go (replace e d) t = one e (within e t)
        go (delete e) t = one e (within e t.0)
        go (replace_with_many e l) t = one e (within e t.0)
        go (replace_all e d l) t = rw (in_run_lem x y e h k (within e t.0), in_run_lem x y d h k (within d t.1))

    run_placed : (x y : ℕ) → is_run_of x y r ≡ edge.is_run_of T x y c
    unfolding is_run_of edge.is_run_of target operation end_of
    run_placed x y = rw (p.operation_told, p.target_told, p.end_told) (go c)
      where
        go : (c : Change) → (eqb (operation c) 5 && (eqb (target c) x && eqb (end_of c) y)) ≡ edge.is_run_of T x y c
        go (insert first_child e l) = refl
        go (insert after e l) = refl
        go (replace e d) = refl
        go (delete e) = refl
        go (replace_with_many e l) = refl
        go (replace_all e d l) = refl

  -- ── A region ──

  module _ (d : Change) (r : ChangeRow) (p : Placed T r d) (t : Sits T d) where
    removes_placed : (e : ℕ) → e < n → adds_region T d ≡ true → removes w r e ≡ edge.removes T d e
    unfolding removes edge.removes target end_of adds_region
    removes_placed e l a = rw (p.target_told, p.end_told) (go d t a)
      where
        one : (x : ℕ) → x < n → (leb x e && ltb e (word w 6 x)) ≡ edge.at_or_below T x x e
        one x h = sym (W.interval x x e h h l refl (omega arith))

        go : (d : Change) → Sits T d → adds_region T d ≡ true → (leb (target d) e && ltb e (word w 6 (end_of d))) ≡ edge.removes T d e
        go (insert q x m) t a = bool_absurd a refl
        go (replace x y) t a = one x (within x t)
        go (delete x) t a = one x (within x t.0)
        go (replace_with_many x m) t a = one x (within x t.0)
        go (replace_all x y m) t a = sym (W.interval x y e (within x t.0) (within y t.1) l t.3 t.4)

    inside_placed : (j k : ℕ) (c : Change) (q : ChangeRow) → Placed T q c → Sits T c → inside w j r k q ≡ edge.inside T j d (k, c)
    unfolding inside edge.inside target operation end_of
    inside_placed j k c q o u = rw (p.operation_told, p.target_told, p.end_told) (go d t)
      where
        go : (d : Change) → Sits T d → (eqb (operation d) 5 && (only_in w (target d) (end_of d) q && not (is_run_of (target d) (end_of d) q && leb k j))) ≡ edge.inside T j d (k, c)
        go (insert first_child x m) t = refl
        go (insert after x m) t = refl
        go (replace x y) t = refl
        go (delete x) t = refl
        go (replace_with_many x m) t = refl
        go (replace_all x y m) t = rw (only_placed c q o u x y (within x t.0) (within y t.1), run_placed c q o u x y)

    -- WHICH REGION TAKES A CHANGE is what the definition says
    pub takes_placed : (j k : ℕ) (c : Change) (q : ChangeRow) → Placed T q c → Sits T c → takes w j r k q ≡ edge.takes T (j, d) (k, c)
    unfolding takes edge.takes
    takes_placed j k c q o u = let z : eqb r.region 0 ≡ not (adds_region T d) = ap (λ (x : ℕ). eqb x 0) p.tells.region_told ∙ region_none T d in rw z (go (adds_region T d) refl)
      where
        go : (a : Bool) → adds_region T d ≡ a
            → (not (not a) && (not (of_root w q) && (removes w r (target_parent w q) || inside w j r k q))) ≡ (a && (not (edge.of_root T c) && (edge.removes T d (edge.target_parent T c) || edge.inside T j d (k, c))))
        go false a = refl
        go true a =
            let e = parent_placed c q o u in
            rw (root_placed c q o u, removes_placed (target_parent w q) e.1 a, e.0, inside_placed j k c q o u)

    -- and whether it makes inner changes dependent
    pub owns_placed : eqb r.region 2 ≡ node_by_node T d
    owns_placed = ap (λ (x : ℕ). eqb x 2) p.tells.region_told ∙ region_owns T d
