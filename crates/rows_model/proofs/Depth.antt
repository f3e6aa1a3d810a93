-- What a splice does to the greatest depth: what stays keeps its depth, and what comes in stands below its parent.
-- Assumes nothing.
use Rattle.std.specs.Prelude.{◌≡◌, ltb, length, take}
use Rattle.std.proofs.Math.Path.{refl, ap}
use Rattle.std.proofs.Common.{sym, ◌∙◌, inl, inr, arith, lt-ltb, le-ltb}
use mathlib.Core.List.{List, [], ◌∷◌}
use Rattle.std.proofs.Math.Option.{some}
use Prim.Native.Nat.{ℕ, suc, ◌+◌, ◌-◌, ◌≤◌, max}
use Rattle.std.proofs.Math.ListN.{drop, get_elem?}
use Rattle.orders.specs.Tree.{Tree, Trees, node, token, list, forest, Path, modify, splice, HasRun, deepest, deepest_of, children}
use Rattle.orders.specs.ListLaws.{lt_or_le, get_split, modify_split, parts}
use Rattle.orders.proofs.TreeLaws.{forest_list, run_child, run_token}
use Rattle.definition_laws.specs.Measures.{deepest_append}

module _ {A : Type 0} where
  -- trees parted at one of them, and with that one changed
  deepest_get : (xs : List (Tree A)) (i : ℕ) (x : Tree A) → get_elem? xs i ≡ some x
      → deepest_of (forest xs) ≡ max (deepest_of (forest (take i xs))) (max (deepest x) (deepest_of (forest (drop (suc i) xs))))
  unfolding deepest_of forest
  deepest_get xs i x g = ap (λ l. deepest_of (forest l)) (get_split xs i x g) ∙ deepest_append (take i xs) (x ∷ drop (suc i) xs)

  deepest_modify : (f : Tree A → Tree A) (xs : List (Tree A)) (i : ℕ) (x : Tree A) → get_elem? xs i ≡ some x
      → deepest_of (forest (modify i f xs)) ≡ max (deepest_of (forest (take i xs))) (max (deepest (f x)) (deepest_of (forest (drop (suc i) xs))))
  unfolding deepest_of forest
  deepest_modify f xs i x g = ap (λ l. deepest_of (forest l)) (modify_split f xs i x g) ∙ deepest_append (take i xs) (f x ∷ drop (suc i) xs)

  module _ (a b : ℕ) (new : List (Tree A)) where
    pub deepest_splice : (q : Path) (t : Tree A) → HasRun t q a b → deepest (splice q a b new t) ≡ max (deepest (splice q a b [] t)) (suc (length q) + deepest_of (forest new))
    unfolding splice deepest forest
    deepest_splice [] (token k x) h = absurd (run_token k x [] a b h)
    deepest_splice [] (node k cs) h = simp deepest_append (omega arith)
    deepest_splice (j ∷ q) (token k x) h = absurd (run_token k x (j ∷ q) a b h)
    deepest_splice (j ∷ q) (node k cs) h =
        let (c, g, m) = run_child k cs j q a b h in
        rw (deepest_modify (λ y. splice q a b new y) (list cs) j c g, deepest_modify (λ y. splice q a b [] y) (list cs) j c g) (omega (arith, deepest_splice q c m))

    -- what is left is no deeper than before
    deepest_left : (q : Path) (t : Tree A) → HasRun t q a b → deepest (splice q a b [] t) ≤ deepest t
    unfolding splice deepest
    deepest_left [] (token k x) h = absurd (run_token k x [] a b h)
    deepest_left [] (node k cs) h =
        let e : a + (b - a) ≡ b = omega (arith, h.ordered) in
        let was : deepest_of cs ≡ max (deepest_of (forest (take a (list cs)))) (max (deepest_of (forest (take (b - a) (drop a (list cs))))) (deepest_of (forest (drop b (list cs))))) =
        ap deepest_of (sym (forest_list cs) ∙ ap forest (rw e at (parts a (b - a) (list cs)))) ∙ simp deepest_append in
        rw (deepest_append (take a (list cs)) (drop b (list cs))) (omega arith)
    deepest_left (j ∷ q) (token k x) h = absurd (run_token k x (j ∷ q) a b h)
    deepest_left (j ∷ q) (node k cs) h =
        let (c, g, m) = run_child k cs j q a b h in
        let was = ap deepest_of (forest_list cs) in
        rw (deepest_modify (λ y. splice q a b [] y) (list cs) j c g) (omega (arith, deepest_left q c m, deepest_get (list cs) j c g))

    -- a root that is a node stays one
    pub root_node : (q : Path) (k : A) (cs : Trees A) → splice q a b new (node k cs) ≡ node k (children (splice q a b new (node k cs)))
    unfolding splice children
    root_node [] k cs = refl
    root_node (j ∷ q) k cs = refl

    root_stays : (q : Path) (t : Tree A) → HasRun t q a b → (deepest t ≡ suc (deepest_of (children t))) × (deepest (splice q a b new t) ≡ suc (deepest_of (children (splice q a b new t))))
    unfolding splice deepest children
    root_stays q (token k x) h = absurd (run_token k x q a b h)
    root_stays [] (node k cs) h = (refl, refl)
    root_stays (j ∷ q) (node k cs) h = (refl, refl)

    -- Where all that is below the root was within a depth, it still is just if what comes in is: a path is as long as its element's depth below the root of all.
    pub depth_splice : (q : Path) (t : Tree A) (d : ℕ) → HasRun t q a b → deepest_of (children t) ≤ d → ltb d (deepest_of (children (splice q a b new t))) ≡ ltb d (length q + deepest_of (forest new))
    depth_splice q t d h k =
        let r = root_stays q t h in
        let s = deepest_splice q t h in
        let l = deepest_left q t h in
        elim (lt_or_le d (length q + deepest_of (forest new))) [
          | inl w ↦ lt-ltb d _ (omega (arith, r.0, r.1)) ∙ sym (lt-ltb d _ w)
          | inr w ↦ le-ltb d _ (omega (arith, r.0, r.1)) ∙ sym (le-ltb d _ w)
        ]
