-- The rows of the table: which element each tells, and that it tells each.
-- Assumes nothing.
use Rattle.std.specs.Prelude.{◌≡◌, refl, ◌⊎◌, ℕ, zero, suc, ◌+◌, ◌-◌, ◌≤◌, ◌<◌, length, take}
use Rattle.std.proofs.Common.{sym, ap, ap₂, ◌∙◌, inl, inr, arith, length-append}
use mathlib.Core.List.{List, [], ◌∷◌, ◌++◌, map, flat_map}
use Rattle.std.proofs.Math.Option
use Rattle.std.proofs.Math.Option.{Option, none, some, bind}
use Rattle.std.proofs.Math.ListN.{get_elem?}
use Rattle.orders.specs.ListLaws.{some_inj, none_some, map_some, bind_some, get_left, get_right, lt_or_le, map_append}
use Rattle.orders.specs.Tree.{Tree, Trees, node, token, nil, cons, list, forest, label, Path, elements, elements_of, text, text_of, children, preorder, preorders}
use Rattle.orders.proofs.TreeLaws.{list_forest, forest_list}
use Rattle.definition.specs.Elements.{Row, Table, numbers, rows, rows_below, table}

-- ── Elements where they stand ───────────────────────────────────────────────────────────────────────────────

-- an element with what is below it, its number, its ancestors' numbers (the parent's first), its path, and where its text starts
pub record Element : Type 0 where
  pub tree : Tree ℕ
  pub number : ℕ
  pub above : List ℕ
  pub path : Path
  pub start : ℕ

-- another tree where e stands
abbrev having : Element → Tree ℕ → Element
having e t = record { tree = t; number = e.number; above = e.above; path = e.path; start = e.start }

-- its row
unfoldable pub row_of : Element → Row
row_of e = record {
  kind = label e.tree;
  line = e.number ∷ e.above;
  path = e.path;
  start = e.start;
  end = e.start + length (text e.tree);
  children = numbers (suc e.number) (children e.tree);
}

-- the children of an element that stand before child i
unfoldable pub before : Element → ℕ → Trees ℕ
before e i = forest (take i (list (children e.tree)))

-- its child i
unfoldable pub child_of : Element → ℕ → Option Element
child_of e i = Option.map
    (λ c. record {
      tree = c;
      number = suc (e.number + elements_of (before e i));
      above = e.number ∷ e.above;
      path = e.path ++ (i ∷ []);
      start = e.start + length (text_of (before e i));
    })
    (get_elem? (list (children e.tree)) i)

-- the element to which child numbers lead from e
unfoldable pub element_at : Element → Path → Option Element
element_at e [] = some e
element_at e (i ∷ p) = bind (child_of e i) (λ c. element_at c p)

-- the root of tree t
unfoldable pub root_of : List (Tree ℕ) → ℕ → Option Element
root_of ts t = Option.map (λ c. record { tree = c; number = elements_of (forest (take t ts)); above = []; path = t ∷ []; start = 0 }) (get_elem? ts t)

-- the element to which a path leads in trees
unfoldable pub element : List (Tree ℕ) → Path → Option Element
element ts [] = none
element ts (t ∷ p) = bind (root_of ts t) (λ r. element_at r p)

-- ── As many rows as elements ────────────────────────────────────────────────────────────────────────────────

mutual
  unfolding rows elements

  pub rows_length : (t : Tree ℕ) (n : ℕ) (above : List ℕ) (p : Path) (s : ℕ) → length (rows t n above p s) ≡ elements t
  rows_length (node w cs) n above p s = ap suc (rows_below_length cs (suc n) (n ∷ above) p 0 s)
  rows_length (token w own) n above p s = refl

  pub rows_below_length : (cs : Trees ℕ) (n : ℕ) (above : List ℕ) (p : Path) (i s : ℕ) → length (rows_below cs n above p i s) ≡ elements_of cs
  rows_below_length nil n above p i s = refl
  rows_below_length (cons c cs) n above p i s =
      length-append (rows c n above (p ++ (i ∷ [])) s) (rows_below cs (n + elements c) above p (suc i) (s + length (text c)))
      ∙ omega (arith, rows_length c n above (p ++ (i ∷ [])) s, rows_below_length cs (n + elements c) above p (suc i) (s + length (text c)))

pub table_length : (ts : List (Tree ℕ)) (n t : ℕ) → length (table n t ts) ≡ elements_of (forest ts)
unfolding table elements forest
table_length [] n t = refl
table_length (c ∷ cs) n t =
    length-append (rows c n [] (t ∷ []) 0) (table (n + elements c) (suc t) cs) ∙ omega (arith, rows_length c n [] (t ∷ []) 0, table_length cs (n + elements c) (suc t))

-- ── A child's rows among its parent's ───────────────────────────────────────────────────────────────────────

-- (fresh variables for the sums, so that each use gives them as it has them)
below_child : (cs : Trees ℕ) (i : ℕ) (c : Tree ℕ) (n j s : ℕ) (above : List ℕ) (p : Path) (k m n' i' s' : ℕ) → get_elem? (list cs) i ≡ some c → k < elements c
    → m ≡ elements_of (forest (take i (list cs))) + k → n' ≡ n + elements_of (forest (take i (list cs))) → i' ≡ j + i → s' ≡ s + length (text_of (forest (take i (list cs))))
    → get_elem? (rows_below cs n above p j s) m ≡ get_elem? (rows c n' above (p ++ (i' ∷ [])) s') k
unfolding list forest rows elements text
below_child nil i c n j s above p k m n' i' s' g h z a b d = none_some g
below_child (cons x cs) zero c n j s above p k m n' i' s' g h z a b d =
    let e : m ≡ k = omega arith in
    let a : n' ≡ n = omega arith in
    let b : i' ≡ j = omega arith in
    let d : s' ≡ s = omega arith in
    let g : x ≡ c = some_inj g in
    rw (e, a, b, d, ← g) (get_left (rows x n above (p ++ (j ∷ [])) s) (rows_below cs (n + elements x) above p (suc j) (s + length (text x))) k (rw (rows_length x n above (p ++ (j ∷ [])) s, g) h))
below_child (cons x cs) (suc i) c n j s above p k m n' i' s' g h z a b d =
    let o = elements_of (forest (take i (list cs))) in
    get_right (rows x n above (p ++ (j ∷ [])) s) (rows_below cs (n + elements x) above p (suc j) (s + length (text x))) m (o + k) (omega (arith, rows_length x n above (p ++ (j ∷ [])) s))
    ∙ below_child cs i c (n + elements x) (suc j) (s + length (text x)) above p k (o + k) n' i' s' g h refl (omega arith) (omega arith)
    (omega (arith, length-append (text x) (text_of (forest (take i (list cs))))))

table_tree : (ts : List (Tree ℕ)) (t : ℕ) (c : Tree ℕ) (n j k m n' j' : ℕ) → get_elem? ts t ≡ some c → k < elements c → m ≡ elements_of (forest (take t ts)) + k
    → n' ≡ n + elements_of (forest (take t ts)) → j' ≡ j + t → get_elem? (table n j ts) m ≡ get_elem? (rows c n' [] (j' ∷ []) 0) k
unfolding table forest elements
table_tree [] t c n j k m n' j' g h z a b = none_some g
table_tree (x ∷ ts) zero c n j k m n' j' g h z a b =
    let e : m ≡ k = omega arith in
    let a : n' ≡ n = omega arith in
    let b : j' ≡ j = omega arith in
    let g : x ≡ c = some_inj g in
    rw (e, a, b, ← g) (get_left (rows x n [] (j ∷ []) 0) (table (n + elements x) (suc j) ts) k (rw (rows_length x n [] (j ∷ []) 0, g) h))
table_tree (x ∷ ts) (suc t) c n j k m n' j' g h z a b =
    let o = elements_of (forest (take t ts)) in
    get_right (rows x n [] (j ∷ []) 0) (table (n + elements x) (suc j) ts) m (o + k) (omega (arith, rows_length x n [] (j ∷ []) 0))
    ∙ table_tree ts t c (n + elements x) (suc j) k (o + k) n' j' g h refl (omega arith) (omega arith)

-- ── Each element has its row ────────────────────────────────────────────────────────────────────────────────

-- the rows of an element and of all below it
abbrev pub rows_from : Element → Table
rows_from e = rows e.tree e.number e.above e.path e.start

-- d stands k rows behind e
pub record Behind (e d : Element) : Type 0 where
  pub by : ℕ
  pub number : d.number ≡ e.number + by
  pub within : by < elements e.tree
  pub told : get_elem? (rows_from e) by ≡ some (row_of d)

row_here : (e : Element) → Behind e e
unfolding rows row_of elements label text children numbers
row_here e = record { by = 0; number = omega arith; within = big e.tree; told = told e.tree }
  where
    big : (t : Tree ℕ) → 0 < elements t
    big (node w cs) = omega arith
    big (token w own) = omega arith

    told : (t : Tree ℕ) → get_elem? (rows_from (having e t)) 0 ≡ some (row_of (having e t))
    told (node w cs) = refl
    told (token w own) = refl

-- a child's elements and those before it are among all
pub child_within : {A : Type 0} (l : List (Tree A)) (i : ℕ) (c : Tree A) → get_elem? l i ≡ some c → elements_of (forest (take i l)) + elements c ≤ elements_of (forest l)
unfolding forest elements
child_within [] i c g = none_some g
child_within (x ∷ l) zero c g = rw (some_inj g) (omega arith)
child_within (x ∷ l) (suc i) c g = omega (arith, child_within l i c g)

child_behind : (e c d : Element) (i : ℕ) → child_of e i ≡ some c → Behind c d → Behind e d
unfolding child_of before children list rows elements
child_behind e c d i g h = go e.tree g
  where
    go : (t : Tree ℕ) → child_of (having e t) i ≡ some c → Behind (having e t) d
    go (token w own) q = none_some q
    go (node w cs) q =
        let (x, a, b) = map_some _ (get_elem? (list cs) i) q in
        let o = elements_of (forest (take i (list cs))) in
        let h' = rw (← b) at h in
        record {
          by = suc (o + h'.by);
          number = omega (arith, h'.number);
          within = omega (arith, h'.within, child_within (list cs) i x a, ap elements_of (forest_list cs));
          told = below_child cs i x (suc e.number) 0 e.start (e.number ∷ e.above) e.path h'.by (o + h'.by) (suc (e.number + o)) i _ a h'.within refl (omega arith) (omega arith) refl ∙ h'.told;
        }

pub row_below : (e d : Element) (p : Path) → element_at e p ≡ some d → Behind e d
unfolding element_at
row_below e d [] s = rw (some_inj s) (row_here d)
row_below e d (i ∷ p) s =
    let (c, g, r) = bind_some (child_of e i) (λ c. element_at c p) s in
    child_behind e c d i g (row_below c d p r)

-- the row of the element to which a path leads stands in the table at the element's number
pub row_element : (ts : List (Tree ℕ)) (p : Path) (e : Element) → element ts p ≡ some e → get_elem? (table 0 0 ts) e.number ≡ some (row_of e)
unfolding element root_of
row_element ts [] e s = none_some s
row_element ts (t ∷ p) e s =
    let (r, g, h) = bind_some (root_of ts t) (λ r. element_at r p) s in
    let (c, a, b) = map_some _ (get_elem? ts t) g in
    let k = rw (← b) at (row_below r e p h) in
    table_tree ts t c 0 0 k.by e.number (elements_of (forest (take t ts))) t a k.within k.number (omega arith) (omega arith) ∙ k.told

-- ── Each row is an element's ────────────────────────────────────────────────────────────────────────────────

-- the element k behind e, and the child numbers down to it
pub record Reached (e : Element) (k : ℕ) : Type 0 where
  pub path : Path
  pub found : Element
  pub at : element_at e path ≡ some found
  pub number : found.number ≡ e.number + k

-- of trees one behind another, the one in which element k stands
record Part (cs : Trees ℕ) (k : ℕ) : Type 0 where
  i : ℕ
  c : Tree ℕ
  rest : ℕ
  found : get_elem? (list cs) i ≡ some c
  parted : k ≡ elements_of (forest (take i (list cs))) + rest
  reach : (e : Element) → Reached (having e c) rest

reach_child : (w : ℕ) (cs : Trees ℕ) (e : Element) (k : ℕ) → Part cs k → Reached (having e (node w cs)) (suc k)
unfolding element_at child_of before children bind
reach_child w cs e k r =
    let o = elements_of (forest (take r.i (list cs))) in
    let c : Element = record { tree = r.c; number = suc (e.number + o); above = e.number ∷ e.above; path = e.path ++ (r.i ∷ []); start = e.start + length (text_of (forest (take r.i (list cs)))) } in
    let d = r.reach c in
    record { path = r.i ∷ d.path; found = d.found; at = rw r.found d.at; number = omega (arith, d.number, r.parted) }

mutual
  unfolding elements element_at list forest

  pub reach_tree : (t : Tree ℕ) (e : Element) (k : ℕ) → k < elements t → Reached (having e t) k
  reach_tree (token w own) e k h = record { path = []; found = having e (token w own); at = refl; number = omega arith }
  reach_tree (node w cs) e zero h = record { path = []; found = having e (node w cs); at = refl; number = omega arith }
  reach_tree (node w cs) e (suc k) h = reach_child w cs e k (reach_trees cs k (omega arith))

  reach_trees : (cs : Trees ℕ) (k : ℕ) → k < elements_of cs → Part cs k
  reach_trees nil k h = absurd (omega arith)
  reach_trees (cons c cs) k h = go (lt_or_le k (elements c)) (λ e l. reach_tree c e k l) (λ l. reach_trees cs (k - elements c) l)
    where
      go : (k < elements c) ⊎ (elements c ≤ k) → ((e : Element) → k < elements c → Reached (having e c) k) → (k - elements c < elements_of cs → Part cs (k - elements c)) → Part (cons c cs) k
      go (inl l) f g = record { i = 0; c = c; rest = k; found = refl; parted = omega arith; reach = λ e. f e l }
      go (inr l) f g =
          let r = g (omega arith) in
          record { i = suc r.i; c = r.c; rest = r.rest; found = r.found; parted = omega (arith, r.parted); reach = r.reach }

-- each number below E is an element's
pub element_number : (ts : List (Tree ℕ)) (n : ℕ) → n < length (table 0 0 ts) → (p : Path) × (e : Element) × (element ts p ≡ some e) × (e.number ≡ n)
unfolding element root_of bind
element_number ts n h =
    let r = reach_trees (forest ts) n (omega (arith, table_length ts 0 0)) in
    let parted = rw (list_forest ts) at r.parted in
    let found = rw (list_forest ts) at r.found in
    let root : Element = record { tree = r.c; number = elements_of (forest (take r.i ts)); above = []; path = r.i ∷ []; start = 0 } in
    let d = r.reach root in
    (r.i ∷ d.path, d.found, rw found d.at, omega (arith, d.number, parted))

-- ── Kinds ───────────────────────────────────────────────────────────────────────────────────────────────────

mutual
  unfolding rows preorder label

  rows_kinds : (t : Tree ℕ) (n : ℕ) (above : List ℕ) (p : Path) (s : ℕ) → map (λ r. r.kind) (rows t n above p s) ≡ map label (preorder t)
  rows_kinds (node w cs) n above p s = ap {B = List ℕ} (λ r. w ∷ r) (below_kinds cs (suc n) (n ∷ above) p 0 s)
  rows_kinds (token w own) n above p s = refl

  below_kinds : (cs : Trees ℕ) (n : ℕ) (above : List ℕ) (p : Path) (i s : ℕ) → map (λ r. r.kind) (rows_below cs n above p i s) ≡ map label (preorders cs)
  below_kinds nil n above p i s = refl
  below_kinds (cons c cs) n above p i s =
      map_append (λ r. r.kind) (rows c n above (p ++ (i ∷ [])) s) (rows_below cs (n + elements c) above p (suc i) (s + length (text c)))
      ∙ (ap₂ (λ (x y : List ℕ). x ++ y) (rows_kinds c n above (p ++ (i ∷ [])) s) (below_kinds cs (n + elements c) above p (suc i) (s + length (text c)))
      ∙ sym (map_append label (preorder c) (preorders cs)))

-- the rows' kinds are the kind words in preorder
pub table_kinds : (ts : List (Tree ℕ)) (n t : ℕ) → map (λ r. r.kind) (table n t ts) ≡ map label (flat_map preorder ts)
unfolding table flat_map
table_kinds [] n t = refl
table_kinds (c ∷ cs) n t =
    map_append (λ r. r.kind) (rows c n [] (t ∷ []) 0) (table (n + elements c) (suc t) cs)
    ∙ (ap₂ (λ (x y : List ℕ). x ++ y) (rows_kinds c n [] (t ∷ []) 0) (table_kinds cs (n + elements c) (suc t)) ∙ sym (map_append label (preorder c) (flat_map preorder cs)))
