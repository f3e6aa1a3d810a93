-- Kind words below 2^32 stay so through any splices; measures are below the sizes of a tree.
-- Assumes nothing.
use Rattle.std.specs.Prelude.{◌≡◌, List, [], ◌∷◌, ◌++◌, ℕ, ◌+◌, ◌^◌, ◌≤◌, ◌<◌, length, take, drop}
use Rattle.std.proofs.Math.Option.{some}
use Rattle.std.proofs.Common.{arith, length-append}
use Rattle.orders.specs.Lists.{All}
use Rattle.orders.specs.ListLaws.{some_inj, none_some, All-mem, get_mem}
use Rattle.orders.specs.Tree.{Tree, Trees, node, token, nil, cons, list, forest, label, measure, text, text_of, preorder, preorders, elements, elements_of, Path, resolve, splice, modify}
use Rattle.orders.proofs.TreeLaws.{list_forest, resolve_child}
use Rattle.definition_laws.specs.Basics.{All-append, append_All, All-take, All-drop, All-modify}

-- ── Kind words ──────────────────────────────────────────────────────────────────────────────────────────────

-- a tree whose kind words are words
abbrev mutual
  pub Labelled : Tree ℕ → Type 0
  Labelled (node w cs) = (w < 2 ^ 32) × LabelledAll cs
  Labelled (token w own) = w < 2 ^ 32

  pub LabelledAll : Trees ℕ → Type 0
  LabelledAll nil = Unit
  LabelledAll (cons c cs) = Labelled c × LabelledAll cs

pub labelled_list : (cs : Trees ℕ) → LabelledAll cs → All Labelled (list cs)
unfolding list
labelled_list nil h = tt
labelled_list (cons c cs) h = (h.0, labelled_list cs h.1)

list_labelled : (cs : Trees ℕ) → All Labelled (list cs) → LabelledAll cs
unfolding list
list_labelled nil h = tt
list_labelled (cons c cs) h = (h.0, list_labelled cs h.1)

pub forest_labelled : (l : List (Tree ℕ)) → All Labelled l → LabelledAll (forest l)
forest_labelled l h = list_labelled (forest l) (rw (list_forest l) h)

pub labelled_resolve : (p : Path) (t x : Tree ℕ) → Labelled t → resolve p t ≡ some x → Labelled x
unfolding resolve
labelled_resolve [] t x h e = rw (some_inj e) at h
labelled_resolve (i ∷ p) (token w own) x h e = none_some e
labelled_resolve (i ∷ p) (node w cs) x h e =
    let (c, a, b) = resolve_child w cs i p x e in
    labelled_resolve p c x (All-mem Labelled (list cs) c (labelled_list cs h.1) (get_mem (list cs) i c a)) b

pub labelled_splice : (q : Path) (a b : ℕ) (new : List (Tree ℕ)) (t : Tree ℕ) → All Labelled new → Labelled t → Labelled (splice q a b new t)
unfolding splice
labelled_splice [] a b new (token w own) n h = h
labelled_splice [] a b new (node w cs) n h =
    let l = labelled_list cs h.1 in
    let m = list cs in
    (h.0, forest_labelled (take a m ++ (new ++ drop b m)) (All-append Labelled (take a m) (new ++ drop b m) (All-take Labelled a m l) (All-append Labelled new (drop b m) n (All-drop Labelled b m l))))
labelled_splice (j ∷ q) a b new (token w own) n h = h
labelled_splice (j ∷ q) a b new (node w cs) n h =
    let f : Tree ℕ → Tree ℕ = λ c. splice q a b new c in
    (h.0, forest_labelled (modify j f (list cs)) (All-modify Labelled f (λ c k. labelled_splice q a b new c n k) j (list cs) (labelled_list cs h.1)))

-- the same, told of all elements in preorder
mutual
  unfolding preorder preorders label

  pub labelled_preorder : (t : Tree ℕ) → Labelled t → All (λ x. label x < 2 ^ 32) (preorder t)
  labelled_preorder (node w cs) h = (h.0, labelled_preorders cs h.1)
  labelled_preorder (token w own) h = (h, tt)

  pub labelled_preorders : (cs : Trees ℕ) → LabelledAll cs → All (λ x. label x < 2 ^ 32) (preorders cs)
  labelled_preorders nil h = tt
  labelled_preorders (cons c cs) h = All-append (λ x. label x < 2 ^ 32) (preorder c) (preorders cs) (labelled_preorder c h.0) (labelled_preorders cs h.1)

mutual
  unfolding preorder preorders label

  pub preorder_labelled : (t : Tree ℕ) → All (λ x. label x < 2 ^ 32) (preorder t) → Labelled t
  preorder_labelled (node w cs) h = (h.0, preorders_labelled cs h.1)
  preorder_labelled (token w own) h = h.0

  pub preorders_labelled : (cs : Trees ℕ) → All (λ x. label x < 2 ^ 32) (preorders cs) → LabelledAll cs
  preorders_labelled nil h = tt
  preorders_labelled (cons c cs) h = let (a, b) = append_All (λ x. label x < 2 ^ 32) (preorder c) (preorders cs) h in (preorder_labelled c a, preorders_labelled cs b)

-- ── Measures ────────────────────────────────────────────────────────────────────────────────────────────────

children_elements : (cs : Trees ℕ) → length (list cs) ≤ elements_of cs
unfolding list elements
children_elements nil = omega arith
children_elements (cons c cs) = omega (arith, children_elements cs, some_element c)
  where
    some_element : (t : Tree ℕ) → 0 < elements t
    some_element (node w cs) = omega arith
    some_element (token w own) = omega arith

-- no measure is above the number of elements and of text bytes
mutual
  unfolding preorder preorders measure elements text

  pub measured : (t : Tree ℕ) (n : ℕ) → elements t + length (text t) ≤ n → All (λ x. measure x ≤ n) (preorder t)
  measured (node w cs) n h = (omega (arith, children_elements cs), measured_all cs n (omega arith))
  measured (token w own) n h = (omega arith, tt)

  pub measured_all : (cs : Trees ℕ) (n : ℕ) → elements_of cs + length (text_of cs) ≤ n → All (λ x. measure x ≤ n) (preorders cs)
  measured_all nil n h = tt
  measured_all (cons c cs) n h =
      let e = length-append (text c) (text_of cs) in
      All-append (λ x. measure x ≤ n) (preorder c) (preorders cs) (measured c n (omega arith)) (measured_all cs n (omega arith))
