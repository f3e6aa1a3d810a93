-- When the region of one change takes another: where the other goes at or below a deleted child, and where it goes inside a run.
-- Assumes nothing.
use Rattle.std.specs.Prelude.{◌≡◌, refl, Bool, ◌||◌, ℕ, suc, ◌≤◌, ◌<◌}
use Rattle.std.proofs.Math.Path.{sym, ap}
use Rattle.std.proofs.Common.{◌∙◌, arith}
use Rattle.std.proofs.Math.Bool.{true, false}
use mathlib.Core.List.{List, [], ◌∷◌, ◌++◌, Memᴰ, append_assoc, append-nil}
use Rattle.std.proofs.Math.Option.{Option, some}
use Rattle.std.proofs.Math.ListN.{length}
use borrow.Author.Tests.{le-leb, ne_eqb}
use Rattle.orders.specs.Lists.{All}
use Rattle.orders.specs.ListLaws.{mem_any}
use Rattle.orders.specs.Tree.{Tree, Path}
use Rattle.definition.specs.Elements.{Table, table, row, node?, root?, parent, child}
use Rattle.definition.specs.Recording.{first_child, after, Change, insert, replace, delete, replace_with_many, replace_all}
use Rattle.definition.specs.Planning.{adds_region}
use Rattle.definition.specs.EdgeRule.{in_run, at_or_below, parent_or_root, target_parent, of_root, removes, only_in, is_run_of, inside, takes}
use Rattle.definition_laws.specs.Spelling.{Worded}
use Rattle.definition_laws.specs.Kin.{path_tells}
use Rattle.definition_laws.specs.Right.{Sits, parent_same}
use Rattle.definition_edge.proofs.Where.{span, At, Beside, beside, line_through, child_by_path, node_over}

-- a test that some part passes
or_true : (a b : Bool) → b ≡ true → (a || b) ≡ true
or_true true b e = refl
or_true false b e = e

module _ (ts : List (Tree ℕ)) where
  abbrev T : Table
  T = table 0 0 ts

  in_run_lem : (x y z : ℕ) → parent T z ≡ parent T x → child T x ≤ child T z → child T z ≤ child T y → in_run T x y z ≡ true
  unfolding in_run
  in_run_lem x y z p a b = rw (p, parent_same (parent T x), le-leb (child T x) (child T z) a, le-leb (child T z) (child T y) b)

  -- ── At or below a deleted child ──

  module _ (w : All Worded ts) where
    -- the target parent of a change that goes somewhere is a node
    parent_node : (c : Change) → Sits T c → of_root T c ≡ false → node? T (target_parent T c) ≡ true
    unfolding target_parent of_root
    parent_node (insert first_child x l) s o = s.1
    parent_node (insert after x l) s o = let k = beside ts x s.0 s.1 in node_over ts w _ x _ [] k.within s.0 k.path
    parent_node (replace x y) s o = let k = beside ts x s o in node_over ts w _ x _ [] k.within s k.path
    parent_node (delete x) s o = let k = beside ts x s.0 s.1 in node_over ts w _ x _ [] k.within s.0 k.path
    parent_node (replace_with_many x l) s o = let k = beside ts x s.0 s.1 in node_over ts w _ x _ [] k.within s.0 k.path
    parent_node (replace_all x y l) s o = let k = beside ts x s.0 s.2 in node_over ts w _ x _ [] k.within s.0 k.path

    -- e, a node, is at or below child k of the element of tree 0 at q
    record Deep (q : Path) (e k : ℕ) : Type 0 where
      child : ℕ
      within : child < length T
      path : (row T child).path ≡ 0 ∷ (q ++ (k ∷ []))
      line : Memᴰ child (row T e).line
      is_node : node? T child ≡ true

    deep : (q : Path) (e k : ℕ) (rest : Path) → e < length T → node? T e ≡ true → (row T e).path ≡ 0 ∷ (q ++ (k ∷ rest)) → Deep q e k
    deep q e k rest h n g =
        let g' : (row T e).path ≡ (0 ∷ (q ++ (k ∷ []))) ++ rest = g ∙ ap (λ (r : Path). 0 ∷ r) (sym (append_assoc q (k ∷ []) rest)) in
        let (z, a, b, m) = line_through ts (suc e) e (0 ∷ (q ++ (k ∷ []))) rest (omega arith) h (omega arith) g' in
        record { child = z; within = a; path = b; line = m; is_node = go rest z a (g' ∙ ap (λ (r : Path). r ++ rest) (sym b)) }
      where
        go : (rest : Path) (z : ℕ) → z < length T → (row T e).path ≡ (row T z).path ++ rest → node? T z ≡ true
        go [] z a g = rw (path_tells ts z e a h (sym (g ∙ append-nil (row T z).path))) n
        go (i ∷ p) z a g = node_over ts w z e i p a h g

    -- one element replaced: what is at or below it is removed, and it is a node
    one_removes : (x k : ℕ) (q : Path) (e : ℕ) → x < length T → Beside ts x → (row T (parent_or_root T x)).path ≡ 0 ∷ q → k ≡ child T x → Deep q e k → (at_or_below T x x e ≡ true) × (node? T x ≡ true)
    unfolding at_or_below
    one_removes x k q e h b p z d =
        let (u, v) = child_by_path ts (parent_or_root T x) d.child k q b.within d.within p d.path in
        let is : d.child ≡ x = path_tells ts d.child x d.within h (d.path ∙ (ap (λ (i : ℕ). 0 ∷ (q ++ (i ∷ []))) z ∙ sym (b.path ∙ ap (λ (r : Path). r ++ (child T x ∷ [])) p))) in
        (mem_any (in_run T x x) (row T e).line d.child d.line (in_run_lem x x d.child (u ∙ sym b.parent) (omega arith) (omega arith)), rw (← is) d.is_node)

    -- a change that goes at or below a child that another deletes belongs to it
    pub deeper_taken : (i j : ℕ) (c d : Change) (q : Path) (a b k : ℕ) (rest : Path) (a' b' : ℕ) → Sits T c → Sits T d → At T c q a b → At T d (q ++ (k ∷ rest)) a' b' → a ≤ k → k < b → takes T (i, c) (j, d) ≡ true
    unfolding takes adds_region removes target_parent span of_root at_or_below
    deeper_taken i j c d q a b k rest a' b' s t x y low high =
        let m = deep q (target_parent T d) k rest y.within (parent_node d t y.no_root) y.parent in
        let (f, g) = region c s x m in
        rw (f, y.no_root, g)
      where
        region : (c : Change) → Sits T c → At T c q a b → Deep q (target_parent T d) k → (adds_region T c ≡ true) × (removes T c (target_parent T d) ≡ true)
        region (insert first_child x l) s at m = absurd (omega (arith, at.from, at.to))
        region (insert after x l) s at m = absurd (omega (arith, at.from, at.to))
        region (replace x y) s at m =
            let (f, g) = one_removes x k q (target_parent T d) s (beside ts x s at.no_root) at.parent (omega (arith, at.from, at.to)) m in
            (g, f)
        region (delete x) s at m =
            let (f, g) = one_removes x k q (target_parent T d) s.0 (beside ts x s.0 s.1) at.parent (omega (arith, at.from, at.to)) m in
            (g, f)
        region (replace_with_many x l) s at m =
            let (f, g) = one_removes x k q (target_parent T d) s.0 (beside ts x s.0 s.1) at.parent (omega (arith, at.from, at.to)) m in
            (g, f)
        region (replace_all x y l) s at m = (refl, run m)
          where
            run : Deep q (target_parent T d) k → at_or_below T x y (target_parent T d) ≡ true
            run m =
                let b = beside ts x s.0 s.2 in
                let (u, v) = child_by_path ts (parent_or_root T x) m.child k q b.within m.within at.parent m.path in
                mem_any (in_run T x y) (row T (target_parent T d)).line m.child m.line (in_run_lem x y m.child (u ∙ sym b.parent) (omega (arith, at.from)) (omega (arith, at.to)))

  -- ── Inside a run ──

  one_parent : (x e : ℕ) (q : Path) → Beside ts x → Beside ts e → (row T (parent_or_root T x)).path ≡ 0 ∷ q → (row T (parent_or_root T e)).path ≡ 0 ∷ q → parent T e ≡ parent T x
  one_parent x e q b f p r =
      let same : parent_or_root T e ≡ parent_or_root T x = path_tells ts _ _ f.within b.within (r ∙ sym p) in
      f.parent ∙ (ap {B = Option ℕ} some same ∙ sym b.parent)

  -- a change that goes strictly inside what another deletes belongs to it: the other is a run
  pub inside_taken : (i j : ℕ) (c d : Change) (q : Path) (a b a' b' : ℕ) → Sits T c → Sits T d → At T c q a b → At T d q a' b' → a ≤ b → a' < a → b < b' → takes T (j, d) (i, c) ≡ true
  unfolding takes inside only_in is_run_of adds_region target_parent span of_root
  inside_taken i j c (insert first_child x l) q a b a' b' s t f g h low high = absurd (omega (arith, g.from, g.to))
  inside_taken i j c (insert after x l) q a b a' b' s t f g h low high = absurd (omega (arith, g.from, g.to))
  inside_taken i j c (replace x y) q a b a' b' s t f g h low high = absurd (omega (arith, g.from, g.to))
  inside_taken i j c (delete x) q a b a' b' s t f g h low high = absurd (omega (arith, g.from, g.to))
  inside_taken i j c (replace_with_many x l) q a b a' b' s t f g h low high = absurd (omega (arith, g.from, g.to))
  inside_taken i j c (replace_all x y l) q a b a' b' s t f g h low high =
      let z : inside T j (replace_all x y l) (i, c) ≡ true = go c s f in
      rw f.no_root (or_true (removes T (replace_all x y l) (target_parent T c)) (inside T j (replace_all x y l) (i, c)) z)
    where
      up : (e : ℕ) → e < length T → root? T e ≡ false → (row T (parent_or_root T e)).path ≡ 0 ∷ q → parent T e ≡ parent T x
      up e k r p = one_parent x e q (beside ts x t.0 t.2) (beside ts e k r) g.parent p

      go : (c : Change) → Sits T c → At T c q a b → inside T j (replace_all x y l) (i, c) ≡ true
      go (insert first_child e m) s f = absurd (omega (arith, f.from))
      go (insert after e m) s f =
          rw (in_run_lem x y e (up e s.0 s.1 f.parent) (omega (arith, f.from, g.from)) (omega (arith, f.to, g.to)), ne_eqb e y (λ z. omega (arith, ap (child T) z, f.to, g.to)))
      go (replace e d) s f = rw (in_run_lem x y e (up e s f.no_root f.parent) (omega (arith, f.from, g.from)) (omega (arith, f.to, g.to)))
      go (delete e) s f = rw (in_run_lem x y e (up e s.0 s.1 f.parent) (omega (arith, f.from, g.from)) (omega (arith, f.to, g.to)))
      go (replace_with_many e m) s f = rw (in_run_lem x y e (up e s.0 s.1 f.parent) (omega (arith, f.from, g.from)) (omega (arith, f.to, g.to)))
      go (replace_all e d m) s f =
          let p = up e s.0 s.2 f.parent in
          rw (
            in_run_lem x y e p (omega (arith, f.from, g.from)) (omega (arith, f.to, g.to, s.4)),
            in_run_lem x y d (sym s.3 ∙ p) (omega (arith, f.from, g.from, s.4)) (omega (arith, f.to, g.to)),
            ne_eqb e x (λ z. omega (arith, ap (child T) z, f.from, g.from)),
          )
