-- The rows of trees: parts, number, text and height; the next trees by counting.
-- Assumes nothing.
use Rattle.std.specs.Prelude.{◌≡◌, refl, ℕ, zero, suc, ◌+◌, ◌≤◌, ◌<◌, max, length, take, drop}
use Rattle.std.proofs.Common.{sym, ap, ◌∙◌, arith, zero-add, suc-add, add-zero, add_comm, length-append}
use mathlib.Core.List.{List, [], ◌∷◌, ◌++◌, map, flat_map, append_assoc, append-nil}
use Rattle.std.proofs.Math.Option.{some}
use Rattle.std.proofs.Math.ListN.{get_elem?}
use Rattle.orders.specs.Tree.{Tree, Trees, node, token, nil, cons, list, forest, label, modify, preorder, preorders, elements, elements_of, text, text_of, deepest, deepest_of, children, measure as measure_of}
use Rattle.orders.specs.ListLaws.{map_append, get_split, modify_split}
use Rattle.orders.proofs.TreeLaws.{list_forest}
use Rattle.definition_laws.specs.Basics.{flat_map_append}
use Rattle.rows_model.specs.Row.{Row, nod, kind, measure, own, owes, row_of, rows_of, rows_in, rows_all, skip, trees_from, trees_in, bytes, opened, height_in, height}
use Rattle.rows_model.specs.Place.{size, size_all}

-- ── Parts ───────────────────────────────────────────────────────────────────────────────────────────────────

pub rows_in_list : (cs : Trees ℕ) → rows_in cs ≡ rows_all (list cs)
unfolding list
rows_in_list nil = refl
rows_in_list (cons t ts) = rw (rows_in_list ts)

pub rows_in_forest : (ts : List (Tree ℕ)) → rows_in (forest ts) ≡ rows_all ts
rows_in_forest ts = rows_in_list (forest ts) ∙ ap rows_all (list_forest ts)

-- a node's rows, where its children are told as a list
pub rows_node : (k : ℕ) (ts : List (Tree ℕ)) → rows_of (node k (forest ts)) ≡ nod k (length ts) ∷ rows_all ts
rows_node k ts = rw (rows_in_forest ts, list_forest ts)

pub rows_append : (ts us : List (Tree ℕ)) → rows_all (ts ++ us) ≡ rows_all ts ++ rows_all us
rows_append [] us = refl
rows_append (t ∷ ts) us = rw (rows_append ts us) (sym (append_assoc (rows_of t) (rows_all ts) (rows_all us)))

pub size_all_append : (ts us : List (Tree ℕ)) → size_all (ts ++ us) ≡ size_all ts + size_all us
size_all_append ts us = ap length (rows_append ts us) ∙ length-append (rows_all ts) (rows_all us)

-- trees parted at one of them, and with that one changed
pub rows_get : (ts : List (Tree ℕ)) (i : ℕ) (c : Tree ℕ) → get_elem? ts i ≡ some c → rows_all ts ≡ rows_all (take i ts) ++ (rows_of c ++ rows_all (drop (suc i) ts))
rows_get ts i c g = ap rows_all (get_split ts i c g) ∙ rows_append (take i ts) (c ∷ drop (suc i) ts)

pub rows_modify : (f : Tree ℕ → Tree ℕ) (ts : List (Tree ℕ)) (i : ℕ) (c : Tree ℕ) → get_elem? ts i ≡ some c → rows_all (modify i f ts) ≡ rows_all (take i ts) ++ (rows_of (f c) ++ rows_all (drop (suc i) ts))
rows_modify f ts i c g = ap rows_all (modify_split f ts i c g) ∙ rows_append (take i ts) (f c ∷ drop (suc i) ts)

pub size_pos : (t : Tree ℕ) → 0 < size t
size_pos (node k cs) = omega arith
size_pos (token k x) = omega arith

-- ── The elements in preorder, as the definition lists them ──────────────────────────────────────────────────

mutual
  unfolding preorder

  pub rows_preorder : (t : Tree ℕ) → rows_of t ≡ map row_of (preorder t)
  rows_preorder (node k cs) = rw (rows_preorders cs)
  rows_preorder (token k x) = refl

  rows_preorders : (cs : Trees ℕ) → rows_in cs ≡ map row_of (preorders cs)
  rows_preorders nil = refl
  rows_preorders (cons c cs) = rw (rows_preorder c, rows_preorders cs) (sym (map_append row_of (preorder c) (preorders cs)))

-- what a row tells, element by element
told_preorder : {X : Type 0} (f : Row → X) (g : Tree ℕ → X) → ((u : Tree ℕ) → f (row_of u) ≡ g u) → (t : Tree ℕ) → map f (rows_of t) ≡ map g (preorder t)
told_preorder {X} f g e t = rw (rows_preorder t) (go (preorder t))
  where
    go : (us : List (Tree ℕ)) → map f (map row_of us) ≡ map g us
    go [] = refl
    go (u ∷ us) = rw (e u, go us)

pub kinds_preorder : (t : Tree ℕ) → map kind (rows_of t) ≡ map label (preorder t)
unfolding label
kinds_preorder t = told_preorder kind label (λ u. elim u as (λ u. kind (row_of u) ≡ label u) [ node k cs ↦ refl | token k x ↦ refl ]) t

pub measures_preorder : (t : Tree ℕ) → map measure (rows_of t) ≡ map measure_of (preorder t)
unfolding measure_of
measures_preorder t = told_preorder measure measure_of (λ u. elim u as (λ u. measure (row_of u) ≡ measure_of u) [ node k cs ↦ refl | token k x ↦ refl ]) t

mutual
  unfolding elements

  pub size_elements : (t : Tree ℕ) → size t ≡ elements t
  size_elements (node k cs) = ap suc (rows_elements cs)
  size_elements (token k x) = refl

  pub rows_elements : (cs : Trees ℕ) → length (rows_in cs) ≡ elements_of cs
  rows_elements nil = refl
  rows_elements (cons c cs) = length-append (rows_of c) (rows_in cs) ∙ omega (arith, size_elements c, rows_elements cs)

pub size_all_elements : (ts : List (Tree ℕ)) → size_all ts ≡ elements_of (forest ts)
size_all_elements ts = ap length (sym (rows_in_forest ts)) ∙ rows_elements (forest ts)

pub size_below : (t : Tree ℕ) → size t ≡ suc (elements_of (children t))
unfolding children elements_of
size_below (node k cs) = ap suc (rows_elements cs)
size_below (token k x) = refl

-- a node has no more children than rows below it
pub children_few : (cs : Trees ℕ) → length (list cs) ≤ length (rows_in cs)
unfolding list
children_few nil = omega arith
children_few (cons c cs) = omega (arith, children_few cs, size_pos c, length-append (rows_of c) (rows_in cs))

-- ── The text ────────────────────────────────────────────────────────────────────────────────────────────────

pub bytes_append : (rs ss : List Row) → bytes (rs ++ ss) ≡ bytes rs + bytes ss
bytes_append [] ss = omega arith
bytes_append (r ∷ rs) ss = omega (arith, bytes_append rs ss)

mutual
  unfolding text

  pub bytes_tree : (t : Tree ℕ) → bytes (rows_of t) ≡ length (text t)
  bytes_tree (node k cs) = omega (arith, bytes_trees cs)
  bytes_tree (token k x) = omega arith

  pub bytes_trees : (cs : Trees ℕ) → bytes (rows_in cs) ≡ length (text_of cs)
  bytes_trees nil = refl
  bytes_trees (cons c cs) = rw (bytes_append (rows_of c) (rows_in cs), length-append (text c) (text_of cs)) (omega (arith, bytes_tree c, bytes_trees cs))

mutual
  unfolding text flat_map

  pub text_tree : (t : Tree ℕ) → flat_map own (rows_of t) ≡ text t
  text_tree (node k cs) = text_trees cs
  text_tree (token k x) = append-nil x

  text_trees : (cs : Trees ℕ) → flat_map own (rows_in cs) ≡ text_of cs
  text_trees nil = refl
  text_trees (cons c cs) = flat_map_append own (rows_of c) (rows_in cs) ∙ rw (text_tree c, text_trees cs)

pub bytes_all : (ts : List (Tree ℕ)) → bytes (rows_all ts) ≡ length (text_of (forest ts))
bytes_all ts = ap bytes (sym (rows_in_forest ts)) ∙ bytes_trees (forest ts)

-- ── The next trees, by counting ─────────────────────────────────────────────────────────────────────────────

pub skip_none : (rs : List Row) → skip 0 rs ≡ 0
skip_none [] = refl
skip_none (r ∷ rs) = refl

mutual
  unfolding list

  pub skip_tree : (t : Tree ℕ) (o : ℕ) (r : List Row) → skip (suc o) (rows_of t ++ r) ≡ size t + skip o r
  skip_tree (token k x) o r = rw (add-zero o) (omega arith)
  skip_tree (node k cs) o r = ap (λ n. suc (skip n (rows_in cs ++ r))) (add_comm o (length (list cs))) ∙ omega (arith, skip_trees cs o r)

  skip_trees : (cs : Trees ℕ) (o : ℕ) (r : List Row) → skip (length (list cs) + o) (rows_in cs ++ r) ≡ length (rows_in cs) + skip o r
  skip_trees nil o r = rw (zero-add o) (omega arith)
  skip_trees (cons t ts) o r =
      rw (suc-add (length (list ts)) o, append_assoc, length-append (rows_of t) (rows_in ts)) (omega (arith, skip_tree t (length (list ts) + o) (rows_in ts ++ r), skip_trees ts o r))

pub skip_all : (ts : List (Tree ℕ)) (n : ℕ) (r : List Row) → length ts ≡ n → skip n (rows_all ts ++ r) ≡ size_all ts
skip_all [] n r e = rw (← e) (skip_none r)
skip_all (t ∷ ts) n r e =
    rw (← e, append_assoc, length-append (rows_of t) (rows_all ts)) (omega (arith, skip_tree t (length ts) (rows_all ts ++ r), skip_all ts (length ts) r refl))

pub skip_le : (o : ℕ) (rs : List Row) → skip o rs ≤ length rs
skip_le o [] = omega arith
skip_le zero (r ∷ rs) = omega arith
skip_le (suc o) (r ∷ rs) = omega (arith, skip_le (o + owes r) rs)

-- ── How many trees ──────────────────────────────────────────────────────────────────────────────────────────

mutual
  unfolding list

  trees_owed : (t : Tree ℕ) (o : ℕ) (r : List Row) → trees_from (suc o) (rows_of t ++ r) ≡ trees_from o r
  trees_owed (token k x) o r = rw (add-zero o)
  trees_owed (node k cs) o r = ap (λ n. trees_from n (rows_in cs ++ r)) (add_comm o (length (list cs))) ∙ trees_all_owed cs o r

  trees_all_owed : (cs : Trees ℕ) (o : ℕ) (r : List Row) → trees_from (length (list cs) + o) (rows_in cs ++ r) ≡ trees_from o r
  trees_all_owed nil o r = rw zero-add
  trees_all_owed (cons t ts) o r = rw (suc-add (length (list ts)) o, append_assoc) (trees_owed t (length (list ts) + o) (rows_in ts ++ r) ∙ trees_all_owed ts o r)

trees_one : (t : Tree ℕ) (r : List Row) → trees_in (rows_of t ++ r) ≡ suc (trees_in r)
trees_one (token k x) r = refl
trees_one (node k cs) r = ap suc (ap (λ n. trees_from n (rows_in cs ++ r)) (sym (add-zero (length (list cs)))) ∙ trees_all_owed cs 0 r)

pub trees_count : (ts : List (Tree ℕ)) → trees_in (rows_all ts) ≡ length ts
trees_count [] = refl
trees_count (t ∷ ts) = trees_one t (rows_all ts) ∙ ap suc (trees_count ts)

-- ── The greatest depth ──────────────────────────────────────────────────────────────────────────────────────

-- a node that owes nothing is closed
pub height_closed : (s : List ℕ) (rs : List Row) → height_in (0 ∷ s) rs ≡ height_in s rs
unfolding height_in
height_closed s [] = refl
height_closed s (r ∷ rs) = refl

mutual
  unfolding list deepest height_in

  height_tree : (t : Tree ℕ) (s : List ℕ) (r : List Row) → height_in s (rows_of t ++ r) ≡ max (length (opened s) + deepest t) (height_in (opened s) r)
  height_tree (token k x) s r = rw (height_closed (opened s) r) (omega arith)
  height_tree (node k cs) s r = omega (arith, height_trees cs (opened s) r)

  height_trees : (cs : Trees ℕ) (s : List ℕ) (r : List Row) → max (suc (length s)) (height_in (length (list cs) ∷ s) (rows_in cs ++ r)) ≡ max (suc (length s) + deepest_of cs) (height_in s r)
  height_trees nil s r = rw (height_closed s r) (omega arith)
  height_trees (cons t ts) s r = rw append_assoc (omega (arith, height_tree t (suc (length (list ts)) ∷ s) (rows_in ts ++ r), height_trees ts s r))

pub height_all : (ts : List (Tree ℕ)) → height (rows_all ts) ≡ deepest_of (forest ts)
unfolding forest deepest_of height_in
height_all [] = refl
height_all (t ∷ ts) = omega (arith, height_tree t [] (rows_all ts), height_all ts)
