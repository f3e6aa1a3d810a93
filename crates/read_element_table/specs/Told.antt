-- What the view of the element table's words says of an element, word by word.
-- Assumes nothing.
use Rattle.std.specs.Prelude.{Bool, cond, ◌≡◌, length}
use Rattle.std.proofs.Math.Bool.{true, false}
use mathlib.Core.List.{List, [], ◌∷◌, ◌++◌, map, head_d, tail}
use Rattle.std.proofs.Math.Option.{Option, none, some}
use Rattle.std.proofs.Math.Path.{refl, sym, ap}
use Rattle.std.proofs.Common.{◌∙◌, add-zero, zero-add}
use Prim.Native.Nat.{ℕ, zero, suc, ◌+◌, ◌*◌, ◌<◌}
use native.Mathlib.Omega.{arith}
use Rattle.std.proofs.Math.ListN.{get_or, length-append}
use Rattle.std.proofs.Math.Dec.{eqb, eqb-suc-zero}
use Rattle.orders.specs.Tree.{last}
use Rattle.orders.proofs.TreeLaws.{last_child}
use Rattle.definition.specs.Elements.{no_row, row, node?, root?, parent, depth, tree, child, is_node}
use Rattle.definition_laws.specs.Basics.{up_from}
use Rattle.read_element_table.specs.View.{field, line_from, path_to, kind_word, measure_word, siblings, row_at, view}
use Rattle.read_element_table.specs.Wellformed.{Lines}

-- the element that a word names: 0 none, e + 1 element e
unfoldable pub element_of : ℕ → Option ℕ
element_of zero = none
element_of (suc e) = some e

-- how many children element e has, by its row: a token none, a node as many as its measure
unfoldable pub child_count : List ℕ → ℕ → ℕ
child_count source e = cond (is_node (get_or source (3 * suc e) 0)) (get_or source (3 * suc e + 1) 0) 0

-- ── Rows ────────────────────────────────────────────────────────────────────────────────────────────────────

map_from : {A : Type 0} (f : ℕ → A) (k n e : ℕ) (d : A) → e < n → get_or (map f (up_from k n)) e d ≡ f (k + e)
unfolding up_from
map_from f k zero e d h = absurd (omega arith)
map_from f k (suc n) zero d h = ap f (sym (add-zero k))
map_from f k (suc n) (suc e) d h = map_from f (suc k) n e d (omega arith) ∙ ap f (omega arith)

map_long : {A : Type 0} (f : ℕ → A) (k n : ℕ) → length (map f (up_from k n)) ≡ n
unfolding up_from
map_long f k zero = refl
map_long f k (suc n) = ap suc (map_long f (suc k) n)

pub length_view : (n : ℕ) (w r : List ℕ) → length (view n w r) ≡ n
unfolding view
length_view n w r = map_long (row_at w r) 0 n

pub row_view : (n : ℕ) (w r : List ℕ) (e : ℕ) → e < n → row (view n w r) e ≡ row_at w r e
unfolding view row
row_view n w r e h = map_from (row_at w r) 0 n e no_row h ∙ ap (row_at w r) (zero-add e)

-- ── Lines and paths, by the word k that names the parent and a way up from there ────────────────────────────

abbrev above : ℕ → (ℕ → List ℕ) → List ℕ
above k line = elim k [ zero ↦ [] | suc p ↦ line p ]

first_above : (k : ℕ) (line : ℕ → List ℕ) → ((p : ℕ) → k ≡ suc p → (l : List ℕ) × (line p ≡ p ∷ l)) → elim (above k line) as (λ _. Option ℕ) [ [] ↦ none | p ∷ above ↦ some p ] ≡ element_of k
unfolding element_of
first_above zero line f = refl
first_above (suc p) line f = let e = f p refl in rw e.1

length_above : (k d : ℕ) (line : ℕ → List ℕ) → (k ≡ 0 → d ≡ 0) → ((p : ℕ) → k ≡ suc p → length (line p) ≡ d) → length (above k line) ≡ d
length_above zero d line f g = sym (f refl)
length_above (suc p) d line f g = g p refl

head_append : (l m : List ℕ) → 0 < length l → head_d (l ++ m) 0 ≡ head_d l 0
unfolding head_d
head_append [] m h = absurd (omega arith)
head_append (x ∷ l) m h = refl

head_above : (k c t : ℕ) (line : ℕ → List ℕ) → (k ≡ 0 → t ≡ c) → ((p : ℕ) → k ≡ suc p → (head_d (line p) 0 ≡ t) × (0 < length (line p))) → head_d (above k line ++ (c ∷ [])) 0 ≡ t
unfolding head_d
head_above zero c t line f g = sym (f refl)
head_above (suc p) c t line f g = let e = g p refl in head_append (line p) (c ∷ []) e.1 ∙ e.0

pub length_siblings : (w r : List ℕ) (k c : ℕ) → length (siblings w r k c) ≡ k
unfolding siblings
length_siblings w r zero c = refl
length_siblings w r (suc k) c = ap suc (length_siblings w r k (field w r 6 c))

-- ── Word by word ────────────────────────────────────────────────────────────────────────────────────────────

module _ (n : ℕ) (w : List ℕ) (L : Lines n w) where
  -- a parent is an element, and every depth is at least 1
  pub parent_below : (e p : ℕ) → e < n → get_or w (8 * e + 1) 0 ≡ suc p → p < n
  parent_below e p h q = let b = L.before e h in omega arith

  pub deep : (e : ℕ) → e < n → 0 < get_or w (8 * e + 3) 0
  deep e h = go (get_or w (8 * e + 1) 0) refl
    where
      go : (k : ℕ) → get_or w (8 * e + 1) 0 ≡ k → 0 < get_or w (8 * e + 3) 0
      go zero q = omega (arith, (L.root e h q).0)
      go (suc p) q = omega (arith, (L.below e p h q).0)

module _ (n : ℕ) (w r : List ℕ) (L : Lines n w) where
  length_line : (d e : ℕ) → e < n → get_or w (8 * e + 3) 0 ≡ d → length (line_from w r d e) ≡ d
  unfolding line_from field
  length_line zero e h q = refl
  length_line (suc d) e h q =
      ap suc
      (length_above (get_or w (8 * e + 1) 0) d (line_from w r d)
      (λ z. omega (arith, (L.root e h z).0))
      (λ p z. length_line d p (parent_below n w L e p h z) (omega (arith, (L.below e p h z).0))))

  pub length_path : (d e : ℕ) → e < n → get_or w (8 * e + 3) 0 ≡ d → length (path_to w r d e) ≡ d
  unfolding path_to field
  length_path zero e h q = refl
  length_path (suc d) e h q =
      rw length-append
      (omega (
        arith,
        length_above (get_or w (8 * e + 1) 0) d (path_to w r d)
            (λ z. omega (arith, (L.root e h z).0))
            (λ p z. length_path d p (parent_below n w L e p h z) (omega (arith, (L.below e p h z).0))),
      ))

  head_path : (d e : ℕ) → e < n → get_or w (8 * e + 3) 0 ≡ suc d → head_d (path_to w r (suc d) e) 0 ≡ get_or w (8 * e + 7) 0
  unfolding path_to field
  head_path zero e h q =
      head_above (get_or w (8 * e + 1) 0) (get_or w (8 * e + 2) 0) (get_or w (8 * e + 7) 0) (path_to w r 0)
      (λ z. (L.root e h z).1)
      (λ p z. absurd (omega (arith, (L.below e p h z).0, deep n w L p (parent_below n w L e p h z))))
  head_path (suc d) e h q =
      head_above (get_or w (8 * e + 1) 0) (get_or w (8 * e + 2) 0) (get_or w (8 * e + 7) 0) (path_to w r (suc d))
      (λ z. (L.root e h z).1)
      (λ p z.
      let l = parent_below n w L e p h z in
      let b = L.below e p h z in
      let q' : get_or w (8 * p + 3) 0 ≡ suc d = omega arith in
      (head_path d p l q' ∙ sym b.1, omega (arith, length_path (suc d) p l q')))

  module _ (e : ℕ) (h : e < n) where
    pub parent_told : parent (view n w r) e ≡ element_of (get_or w (8 * e + 1) 0)
    unfolding parent row_at line_from field
    parent_told = rw (row_view n w r e h, parent) (go (get_or w (8 * e + 3) 0) refl)
      where
        top : (d p : ℕ) → 0 < d → (l : List ℕ) × (line_from w r d p ≡ p ∷ l)
        top zero p g = absurd (omega arith)
        top (suc d) p g = (_, refl)

        go : (d : ℕ) → get_or w (8 * e + 3) 0 ≡ d → elim (tail (line_from w r d e)) as (λ _. Option ℕ) [ [] ↦ none | p ∷ above ↦ some p ] ≡ element_of (get_or w (8 * e + 1) 0)
        go zero q = absurd (omega (arith, deep n w L e h))
        go (suc d) q =
            first_above (get_or w (8 * e + 1) 0) (line_from w r d)
            (λ p z. top d p (omega (arith, (L.below e p h z).0, deep n w L p (parent_below n w L e p h z))))

    pub root_told : root? (view n w r) e ≡ eqb (get_or w (8 * e + 1) 0) 0
    unfolding root? element_of
    root_told = rw (parent_told, root?) (go (get_or w (8 * e + 1) 0))
      where
        go : (k : ℕ) → elim (element_of k) as (λ _. Bool) [ none ↦ true | some p ↦ false ] ≡ eqb k 0
        go zero = refl
        go (suc p) = sym (eqb-suc-zero p)

    pub depth_told : depth (view n w r) e ≡ get_or w (8 * e + 3) 0
    unfolding depth row_at field
    depth_told = rw (row_view n w r e h) (length_line (get_or w (8 * e + 3) 0) e h refl)

    pub tree_told : tree (view n w r) e ≡ get_or w (8 * e + 7) 0
    unfolding tree row_at field
    tree_told = rw (row_view n w r e h) (go (get_or w (8 * e + 3) 0) refl)
      where
        go : (d : ℕ) → get_or w (8 * e + 3) 0 ≡ d → head_d (path_to w r d e) 0 ≡ get_or w (8 * e + 7) 0
        go zero q = absurd (omega (arith, deep n w L e h))
        go (suc d) q = head_path d e h q

    pub child_told : child (view n w r) e ≡ get_or w (8 * e + 2) 0
    unfolding child row_at path_to field
    child_told = rw (row_view n w r e h) (go (get_or w (8 * e + 3) 0) refl)
      where
        go : (d : ℕ) → get_or w (8 * e + 3) 0 ≡ d → last (path_to w r d e) ≡ get_or w (8 * e + 2) 0
        go zero q = absurd (omega (arith, deep n w L e h))
        go (suc d) q = last_child (above (get_or w (8 * e + 1) 0) (path_to w r d)) (get_or w (8 * e + 2) 0)

module _ (n : ℕ) (w r : List ℕ) (e : ℕ) (h : e < n) where
  pub node_told : node? (view n w r) e ≡ is_node (get_or r (3 * suc e) 0)
  unfolding node? row_at kind_word
  node_told = rw (row_view n w r e h)

  pub children_told : (row (view n w r) e).children ≡ siblings w r (child_count r e) (suc e)
  unfolding row_at kind_word measure_word child_count
  children_told = rw (row_view n w r e h)
