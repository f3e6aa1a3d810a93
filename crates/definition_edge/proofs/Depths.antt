-- Depths: a region that makes inner changes dependent has a lower target parent than what belongs to it. So the regions that decide a fate are soon at an end.
-- Assumes nothing.
use Rattle.std.specs.Prelude.{◌≡◌, Bool, not, ◌&&◌, List, ◌⊎◌, ℕ, suc, ◌-◌, ◌≤◌, ◌<◌}
use Rattle.std.proofs.Math.Path.{refl, ap}
use Rattle.std.proofs.Common.{sym, ◌∙◌, inl, inr}
use Rattle.std.proofs.Math.Bool.{true, false, cond}
use Rattle.std.proofs.Math.Option.{Option, none, some, get_or}
use native.Mathlib.Omega.{arith}
use Rattle.std.proofs.Math.Dec.{leb}
use Rattle.std.proofs.Math.ListN.{length, length-append}
use borrow.Author.Tests.{not-true}
use Rattle.orders.specs.ListLaws.{bool_absurd, both_true, either_true, any_mem}
use Rattle.orders.specs.Tree.{Tree}
use Rattle.definition.specs.Elements.{Table, table, row, root?, depth, parent, child}
use Rattle.definition.specs.Refusals.{same_parent}
use Rattle.definition.specs.Recording.{first_child, after, Change, insert, replace, delete, replace_with_many, replace_all}
use Rattle.definition.specs.Planning.{above, parent_depth, adds_region, node_by_node}
use Rattle.definition.specs.EdgeRule.{in_run, at_or_below, parent_or_root, target_parent, of_root, removes, inside, takes, region_depth}
use Rattle.definition_laws.specs.Kin.{IsParent, parent_is, root_is, line_above, depth_path, path_long}
use Rattle.definition_laws.specs.Right.{Sits, same_parent_lem}

module _ (ts : List (Tree ℕ)) where
  abbrev T : Table
  T = table 0 0 ts

  -- ── Parents ──

  depth_child : (m x : ℕ) → IsParent ts m x → depth T x ≡ suc (depth T m)
  unfolding depth
  depth_child m x k = ap length k.line

  -- the target parent of a change at x, and its depth
  parent_depth_lem : (x : ℕ) → x < length T → (parent_or_root T x < length T) × (above T x ≡ depth T (parent_or_root T x))
  unfolding above parent_or_root root?
  parent_depth_lem x h = go (parent T x) refl
    where
      go : (o : Option ℕ) → parent T x ≡ o
          → (get_or o x < length T) × (cond (elim o as (λ o. Bool) [ none ↦ true | some p ↦ false ]) (depth T x) (depth T x - 1) ≡ depth T (get_or o x))
      go none e = (h, refl)
      go (some m) e = let k = parent_is ts x m h e in (k.within, omega (arith, depth_child m x k))

  pub target_parent_lem : (c : Change) → Sits T c → (target_parent T c < length T) × (parent_depth T c ≡ depth T (target_parent T c))
  unfolding target_parent parent_depth
  target_parent_lem (insert first_child x l) s = (s.0, refl)
  target_parent_lem (insert after x l) s = parent_depth_lem x s.0
  target_parent_lem (replace x y) s = parent_depth_lem x s
  target_parent_lem (delete x) s = parent_depth_lem x s.0
  target_parent_lem (replace_with_many x l) s = parent_depth_lem x s.0
  target_parent_lem (replace_all x y l) s = parent_depth_lem x s.0

  depth_some : (e : ℕ) → e < length T → 0 < depth T e
  depth_some e h = omega (arith, depth_path ts e h, path_long ts e h)

  -- ── What is at or below ──

  line_one : (x : ℕ) → x < length T → parent T x ≡ none → depth T x ≡ 1
  unfolding root? depth
  line_one x h e = ap length (root_is ts x h (rw (e, root?))).line

  siblings_depth : (x z : ℕ) → x < length T → z < length T → parent T z ≡ parent T x → depth T z ≡ depth T x
  siblings_depth x z h k e = go (parent T x) refl
    where
      go : (o : Option ℕ) → parent T x ≡ o → depth T z ≡ depth T x
      go none q = line_one z k (e ∙ q) ∙ sym (line_one x h q)
      go (some m) q = depth_child m z (parent_is ts z m k (e ∙ q)) ∙ sym (depth_child m x (parent_is ts x m h q))

  below_depth : (x y e : ℕ) → x < length T → e < length T → at_or_below T x y e ≡ true → depth T x ≤ depth T e
  unfolding at_or_below in_run
  below_depth x y e h k q =
      let (z, m, p) = any_mem (in_run T x y) (row T e).line q in
      let (w, (r, u)) = line_above ts (suc e) e z (omega arith) k m in
      let (p, high) = both_true (same_parent (parent T z) (parent T x) && leb (child T x) (child T z)) (leb (child T z) (child T y)) p in
      let (p, low) = both_true (same_parent (parent T z) (parent T x)) (leb (child T x) (child T z)) p in
      let d = siblings_depth x z h w (same_parent_lem (parent T z) (parent T x) p) in
      omega (arith, d, depth_path ts e k, depth_path ts z w, ap length u, length-append (row T z).path r)

  -- ── Regions ──

  -- what a region takes, told apart
  pub record Taken (r c : ℕ × Change) : Type 0 where
    pub region : adds_region T r.1 ≡ true
    pub no_root : of_root T c.1 ≡ false
    pub how : (removes T r.1 (target_parent T c.1) ≡ true) ⊎ (inside T r.0 r.1 c ≡ true)

  pub taken : (r c : ℕ × Change) → takes T r c ≡ true → Taken r c
  unfolding takes
  taken r c e =
      let (a, e) = both_true (adds_region T r.1) _ e in
      let (b, e) = both_true (not (of_root T c.1)) _ e in
      record { region = a; no_root = not-true _ b; how = either_true (removes T r.1 (target_parent T c.1)) _ e }

  -- a node replaced by a node has its target parent further out than what it takes
  pub taken_deeper : (r c : ℕ × Change) → Sits T r.1 → Sits T c.1 → takes T r c ≡ true → node_by_node T r.1 ≡ true → region_depth T r.1 < region_depth T c.1
  unfolding node_by_node removes inside region_depth of_root parent_depth above
  taken_deeper r c s k e n = let t = taken r c e in go r.1 s n t.how t.no_root
    where
      go : (d : Change) → Sits T d → node_by_node T d ≡ true → (removes T d (target_parent T c.1) ≡ true) ⊎ (inside T r.0 d c ≡ true) → of_root T c.1 ≡ false → region_depth T d < region_depth T c.1
      go (insert p x l) s n w f = bool_absurd n refl
      go (delete x) s n w f = bool_absurd n refl
      go (replace_with_many x l) s n w f = bool_absurd n refl
      go (replace_all x y l) s n w f = bool_absurd n refl
      go (replace x y) s n (inr w) f = bool_absurd w refl
      go (replace x y) s n (inl w) f =
          let p = target_parent_lem c.1 k in
          let d = below_depth x x (target_parent T c.1) s p.0 w in
          let far : cond (root? T x) 0 (above T x) < depth T (target_parent T c.1) = further (root? T x) refl d (depth_some x s) in
          rw f (omega (arith, p.1, far))
        where
          further : (b : Bool) → root? T x ≡ b → depth T x ≤ depth T (target_parent T c.1) → 0 < depth T x → cond b 0 (above T x) < depth T (target_parent T c.1)
          further true e d h = omega arith
          further false e d h = rw e (omega arith)
