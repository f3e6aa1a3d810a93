-- Elements, text and depth of trees, where the trees stand as a list.
-- Assumes nothing.
use Rattle.std.specs.Prelude.{◌≡◌, ℕ, suc, ◌≤◌, max, length}
use Rattle.std.proofs.Math.Path.{refl}
use Rattle.std.proofs.Common.{sym, ap, ◌∙◌, length-append}
use mathlib.Core.List.{List, [], ◌∷◌, ◌++◌, flat_map, append_assoc}
use native.Mathlib.Omega.{arith}
use Rattle.orders.specs.Lists.{All}
use Rattle.orders.specs.Tree.{Tree, Trees, node, token, nil, cons, list, forest, preorder, preorders, elements, elements_of, text, text_of, deepest, deepest_of}
use Rattle.orders.proofs.TreeLaws.{list_forest}
use Rattle.definition_laws.specs.Basics.{flat_map_append}

-- ── A node's children as a list ─────────────────────────────────────────────────────────────────────────────

pub preorders_list : {A : Type 0} (cs : Trees A) → preorders cs ≡ flat_map preorder (list cs)
unfolding preorder list flat_map
preorders_list nil = refl
preorders_list {A} (cons c cs) = ap {B = List (Tree A)} (λ r. preorder c ++ r) (preorders_list cs)

pub preorder_node : {A : Type 0} (w : A) (l r : List (Tree A)) → flat_map preorder (node w (forest l) ∷ r) ≡ node w (forest l) ∷ flat_map preorder (l ++ r)
unfolding preorder flat_map
preorder_node w l r = rw (preorders_list (forest l), list_forest l, flat_map_append preorder l r)

pub text_of_list : {A : Type 0} (cs : Trees A) → text_of cs ≡ flat_map text (list cs)
unfolding text list flat_map
text_of_list nil = refl
text_of_list (cons c cs) = ap {B = List ℕ} (λ r. text c ++ r) (text_of_list cs)

-- ── Trees one behind another ────────────────────────────────────────────────────────────────────────────────

-- (`elements_append` stands in orders)
module _ {A : Type 0} where
  pub text_append : (xs ys : List (Tree A)) → text_of (forest (xs ++ ys)) ≡ text_of (forest xs) ++ text_of (forest ys)
  unfolding text forest
  text_append [] ys = refl
  text_append (x ∷ xs) ys = rw (text_append xs ys) (sym (append_assoc (text x) (text_of (forest xs)) (text_of (forest ys))))

  pub deepest_append : (xs ys : List (Tree A)) → deepest_of (forest (xs ++ ys)) ≡ max (deepest_of (forest xs)) (deepest_of (forest ys))
  unfolding deepest forest
  deepest_append [] ys = omega arith
  deepest_append (x ∷ xs) ys = omega (arith, deepest_append xs ys)

  -- each tree is within a depth exactly if all together are
  pub deepest_each : (n : ℕ) (xs : List (Tree A)) → All (λ x. deepest x ≤ n) xs → deepest_of (forest xs) ≤ n
  unfolding deepest forest
  deepest_each n [] h = omega arith
  deepest_each n (x ∷ xs) h = omega (arith, h.0, deepest_each n xs h.1)

-- ── As many elements as in preorder ─────────────────────────────────────────────────────────────────────────

mutual
  unfolding preorder elements

  pub preorder_length : {A : Type 0} (t : Tree A) → length (preorder t) ≡ elements t
  preorder_length (node w cs) = ap suc (preorders_length cs)
  preorder_length (token w own) = refl

  pub preorders_length : {A : Type 0} (cs : Trees A) → length (preorders cs) ≡ elements_of cs
  preorders_length nil = refl
  preorders_length (cons c cs) = length-append (preorder c) (preorders cs) ∙ omega (arith, preorder_length c, preorders_length cs)

pub preorder_list_length : {A : Type 0} (ts : List (Tree A)) → length (flat_map preorder ts) ≡ elements_of (forest ts)
preorder_list_length ts = ap length (sym (preorders_list (forest ts) ∙ ap (flat_map preorder) (list_forest ts))) ∙ preorders_length (forest ts)
