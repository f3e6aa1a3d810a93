-- What the table tells of elements and their kin: paths, parents, children, descents.
-- Assumes nothing.
use Rattle.std.specs.Prelude.{◌≡◌, true, false, ◌⊎◌, take, get_or}
use Rattle.std.proofs.Math.Path.{refl, sym, ap}
use Rattle.std.proofs.Common.{◌∙◌, subst, inl, inr}
use mathlib.Core.List.Memᴰ
use mathlib.Core.List.{List, [], ◌∷◌, ◌++◌, head_d, append_assoc, append-nil, Memᴰ}
use Rattle.std.proofs.Math.Option.{Option, none, some, map, bind}
use Prim.Native.Nat.{ℕ, zero, suc, ◌+◌, ◌<◌}
use native.Mathlib.Omega.{arith}
use Rattle.std.proofs.Math.ListN.{length, get_elem?}
use Rattle.orders.specs.ListLaws.{bool_absurd, some_inj, none_some, map_some, bind_some, get_lt}
use Rattle.orders.specs.Tree.{Tree, Trees, node, token, nil, cons, list, forest, label, Path, resolve, elements, elements_of, text_of, children, last, front, strip}
use Rattle.orders.proofs.TreeLaws.{list_forest, strip_append, strip_some, last_child, front_last}
use Rattle.definition.specs.Elements.{Table, numbers, table, no_row, row, parent, root?, depth, tree, child, place_below, descend}
use Rattle.definition_laws.specs.Rows.{Element, row_of, before, child_of, element_at, root_of, element, row_element, element_number}

-- ── Down the tree ───────────────────────────────────────────────────────────────────────────────────────────

-- c is child i of e
pub record IsChild (e : Element) (i : ℕ) (c : Element) : Type 0 where
  pub found : get_elem? (list (children e.tree)) i ≡ some c.tree
  pub number : c.number ≡ suc (e.number + elements_of (before e i))
  pub above : c.above ≡ e.number ∷ e.above
  pub path : c.path ≡ e.path ++ (i ∷ [])
  pub start : c.start ≡ e.start + length (text_of (before e i))

pub child_is : (e c : Element) (i : ℕ) → child_of e i ≡ some c → IsChild e i c
unfolding child_of
child_is e c i g =
    let (x, a, b) = map_some _ (get_elem? (list (children e.tree)) i) g in
    record { found = a ∙ ap {B = Option (Tree ℕ)} (λ d. some d.tree) b; number = sym (ap (λ d. d.number) b); above = sym (ap (λ d. d.above) b); path = sym (ap (λ d. d.path) b); start = sym (ap (λ d. d.start) b) }

pub element_at_append : (e : Element) (p q : Path) → element_at e (p ++ q) ≡ bind (element_at e p) (λ d. element_at d q)
unfolding element_at bind
element_at_append e [] q = refl
element_at_append e (i ∷ p) q = go (child_of e i) (λ c. element_at_append c p q)
  where
    go : (o : Option Element) → ((c : Element) → element_at c (p ++ q) ≡ bind (element_at c p) (λ d. element_at d q)) → bind o (λ c. element_at c (p ++ q)) ≡ bind (bind o (λ c. element_at c p)) (λ d. element_at d q)
    go none r = refl
    go (some c) r = r c

pub element_append : (ts : List (Tree ℕ)) (t : ℕ) (p q : Path) → element ts (t ∷ (p ++ q)) ≡ bind (element ts (t ∷ p)) (λ d. element_at d q)
unfolding element bind
element_append ts t p q = go (root_of ts t)
  where
    go : (o : Option Element) → bind o (λ r. element_at r (p ++ q)) ≡ bind (bind o (λ r. element_at r p)) (λ d. element_at d q)
    go none = refl
    go (some r) = element_at_append r p q

pub element_at_path : (e d : Element) (p : Path) → element_at e p ≡ some d → d.path ≡ e.path ++ p
unfolding element_at
element_at_path e d [] g = ap (λ x. x.path) (sym (some_inj g)) ∙ sym (append-nil e.path)
element_at_path e d (i ∷ p) g =
    let (c, a, b) = bind_some (child_of e i) (λ c. element_at c p) g in
    element_at_path c d p b ∙ (ap (λ x. x ++ p) (child_is e c i a).path ∙ append_assoc e.path (i ∷ []) p)

-- an element has the path that leads to it
pub element_path : (ts : List (Tree ℕ)) (p : Path) (e : Element) → element ts p ≡ some e → e.path ≡ p
unfolding element root_of
element_path ts [] e g = none_some g
element_path ts (t ∷ p) e g =
    let (r, a, b) = bind_some (root_of ts t) (λ r. element_at r p) g in
    let (c, f, h) = map_some _ (get_elem? ts t) a in
    element_at_path r e p b ∙ ap (λ x. x.path ++ p) (sym h)

pub resolve_down : (i : ℕ) (p : Path) (t : Tree ℕ) → resolve (i ∷ p) t ≡ bind (get_elem? (list (children t)) i) (λ c. resolve p c)
unfolding resolve children list bind
resolve_down i p (node w cs) = refl
resolve_down i p (token w own) = refl

-- what stands where a path leads
pub element_at_tree : (e : Element) (p : Path) → map (λ d. d.tree) (element_at e p) ≡ resolve p e.tree
unfolding element_at resolve child_of bind
element_at_tree e [] = refl
element_at_tree e (i ∷ p) = rw (resolve_down i p e.tree) (go (get_elem? (list (children e.tree)) i) (λ c. element_at_tree c p))
  where
    go : (o : Option (Tree ℕ)) → ((c : Element) → map (λ d. d.tree) (element_at c p) ≡ resolve p c.tree)
        → map (λ d. d.tree) (bind (map (λ c. record { tree = c; number = suc (e.number + elements_of (before e i)); above = e.number ∷ e.above; path = e.path ++ (i ∷ []); start = e.start + length (text_of (before e i)) }) o) (λ c. element_at c p)) ≡ bind o (λ c. resolve p c)
    go none r = refl
    go (some c) r = r _

pub element_tree : (ts : List (Tree ℕ)) (t : ℕ) (p : Path) (w : ℕ) → map (λ d. d.tree) (element ts (t ∷ p)) ≡ resolve (t ∷ p) (node w (forest ts))
unfolding element root_of bind resolve
element_tree ts t p w = rw (list_forest ts) (go (get_elem? ts t))
  where
    go : (o : Option (Tree ℕ))
        → map (λ d. d.tree) (bind (map (λ c. record { tree = c; number = elements_of (forest (take t ts)); above = []; path = t ∷ []; start = 0 }) o) (λ r. element_at r p)) ≡ bind o (λ c. resolve p c)
    go none = refl
    go (some c) = element_at_tree _ p

-- the numbers of trees one behind another
pub get_numbers : (cs : Trees ℕ) (n i : ℕ) → get_elem? (numbers n cs) i ≡ map (λ (c : Tree ℕ). n + elements_of (forest (take i (list cs)))) (get_elem? (list cs) i)
unfolding numbers list forest elements
get_numbers nil n i = refl
get_numbers (cons c cs) n zero = ap {B = Option ℕ} some (omega arith)
get_numbers (cons c cs) n (suc i) = get_numbers cs (n + elements c) i ∙ ap (λ m. map (λ (x : Tree ℕ). m) (get_elem? (list cs) i)) (omega arith)

-- the children that a row lists are its element's
pub child_number : (e : Element) (i : ℕ) → get_elem? (row_of e).children i ≡ map (λ c. c.number) (child_of e i)
unfolding row_of child_of before
child_number e i = get_numbers (children e.tree) (suc e.number) i ∙ go (get_elem? (list (children e.tree)) i)
  where
    go : (o : Option (Tree ℕ)) → map (λ (c : Tree ℕ). suc e.number + elements_of (before e i)) o
        ≡ map (λ (c : Element). c.number) (map (λ c. record { tree = c; number = suc (e.number + elements_of (before e i)); above = e.number ∷ e.above; path = e.path ++ (i ∷ []); start = e.start + length (text_of (before e i)) }) o)
    go none = refl
    go (some c) = ap {B = Option ℕ} some (omega arith)

-- the path of an element and child numbers below it
pub element_below : (ts : List (Tree ℕ)) (p : Path) (e : Element) (q : Path) → element ts p ≡ some e → element ts (p ++ q) ≡ element_at e q
unfolding element bind
element_below ts [] e q g = none_some g
element_below ts (t ∷ p) e q g = element_append ts t p q ∙ rw g

pub element_child : (ts : List (Tree ℕ)) (p : Path) (e c : Element) (i : ℕ) → element ts p ≡ some e → child_of e i ≡ some c → element ts (p ++ (i ∷ [])) ≡ some c
unfolding element_at bind
element_child ts p e c i g h = element_below ts p e (i ∷ []) g ∙ rw h

-- ── The table ───────────────────────────────────────────────────────────────────────────────────────────────

pub get_get_d : {A : Type 0} (l : List A) (i : ℕ) (x d : A) → get_elem? l i ≡ some x → get_or l i d ≡ x
get_get_d [] i x d e = none_some e
get_get_d (y ∷ l) zero x d e = some_inj e
get_get_d (y ∷ l) (suc i) x d e = get_get_d l i x d e

-- element n of the trees, where it stands
pub record Stands (ts : List (Tree ℕ)) (n : ℕ) : Type 0 where
  pub here : Element
  pub number : here.number ≡ n
  pub at : element ts here.path ≡ some here
  pub told : row (table 0 0 ts) n ≡ row_of here

-- a row's line tells the parent
parent_root : (T : Table) (n m : ℕ) → (row T n).line ≡ m ∷ [] → parent T n ≡ none
unfolding parent
parent_root T n m e = rw (e, parent)

parent_some : (T : Table) (n k m : ℕ) (above : List ℕ) → (row T n).line ≡ k ∷ m ∷ above → parent T n ≡ some m
unfolding parent
parent_some T n k m above e = rw (e, parent)

-- its path tells the tree
tree_path : (T : Table) (n t : ℕ) (p : Path) → (row T n).path ≡ t ∷ p → tree T n ≡ t
unfolding tree head_d
tree_path T n t p e = ap (λ q. head_d q 0) e

pub element_at_one : (d e : Element) (i : ℕ) → element_at d (i ∷ []) ≡ some e → child_of d i ≡ some e
unfolding element_at
element_at_one d e i g = let (c, a, b) = bind_some (child_of d i) (λ c. some c) g in a ∙ b

module _ (ts : List (Tree ℕ)) where
  -- what is known of each element of the trees
  abbrev T : Table
  T = table 0 0 ts

  pub row_told_lem : (p : Path) (e : Element) → element ts p ≡ some e → row T e.number ≡ row_of e
  unfolding row
  row_told_lem p e g = get_get_d T e.number (row_of e) no_row (row_element ts p e g)

  pub element_stands : (p : Path) (e : Element) → element ts p ≡ some e → Stands ts e.number
  element_stands p e g = record { here = e; number = refl; at = ap (element ts) (element_path ts p e g) ∙ g; told = row_told_lem p e g }

  -- every number below E is an element's
  pub stands : (n : ℕ) → n < length T → Stands ts n
  stands n h = let (p, e, g, a) = element_number ts n h in rw (← a) (element_stands p e g)

  -- an element's number is below E, and its path begins with the number of its tree
  pub stands_within : (n : ℕ) → Stands ts n → n < length T
  stands_within n s = rw (← s.number) (get_lt T s.here.number (row_element ts s.here.path s.here s.at))

  -- ── Paths ──

  -- the path of element n leads to an element of its kind
  pub path_leads : (n w : ℕ) → n < length T → (x : Tree ℕ) × (resolve (row T n).path (node w (forest ts)) ≡ some x) × (label x ≡ (row T n).kind)
  unfolding row_of element
  path_leads n w h = let s = stands n h in rw s.told (go s.here.path s.here s.at)
    where
      go : (p : Path) (e : Element) → element ts p ≡ some e → (x : Tree ℕ) × (resolve p (node w (forest ts)) ≡ some x) × (label x ≡ label e.tree)
      go [] e g = none_some g
      go (t ∷ p) e g = (e.tree, sym (element_tree ts t p w) ∙ ap (map (λ d. d.tree)) g, refl)

  -- it is not empty
  pub path_long : (n : ℕ) → n < length T → 0 < length (row T n).path
  unfolding row_of element
  path_long n h = let s = stands n h in rw s.told (go s.here.path s.here s.at)
    where
      go : (p : Path) (e : Element) → element ts p ≡ some e → 0 < length p
      go [] e g = none_some g
      go (t ∷ p) e g = omega arith

  -- two elements have two paths
  pub path_tells : (m n : ℕ) → m < length T → n < length T → (row T m).path ≡ (row T n).path → m ≡ n
  unfolding row_of
  path_tells m n h k e =
      let s = stands m h in
      let u = stands n k in
      let p : s.here.path ≡ u.here.path = ap (λ r. r.path) (sym s.told) ∙ (e ∙ ap (λ r. r.path) u.told) in
      let same : s.here ≡ u.here = some_inj (sym s.at ∙ (ap (element ts) p ∙ u.at)) in
      sym s.number ∙ (ap (λ d. d.number) same ∙ u.number)

  -- ── Descents ──

  -- down from an element of the trees
  pub descend_element : (q : Path) (p : Path) (e : Element) → element ts p ≡ some e → descend T e.number q ≡ map (λ d. d.number) (element_at e q)
  unfolding descend element_at bind
  descend_element [] p e g = refl
  descend_element (i ∷ q) p e g =
      rw (row_told_lem p e g, child_number e i) (go (child_of e i) refl (λ c h. descend_element q (p ++ (i ∷ [])) c (element_child ts p e c i g h)))
    where
      go : (o : Option Element) → child_of e i ≡ o → ((c : Element) → child_of e i ≡ some c → descend T c.number q ≡ map (λ d. d.number) (element_at c q))
          → bind (map (λ (c : Element). c.number) o) (λ c. descend T c q) ≡ map (λ (d : Element). d.number) (bind o (λ c. element_at c q))
      go none h r = refl
      go (some c) h r = r c h

  -- e is reached from x by the child numbers p exactly if its place below x is p
  pub place_descends : (x e : ℕ) (p : Path) → x < length T → e < length T → place_below T x e ≡ some p → descend T x p ≡ some e
  unfolding place_below row_of
  place_descends x e p h k g =
      let s = stands x h in
      let u = stands e k in
      let q : u.here.path ≡ s.here.path ++ p = strip_some s.here.path u.here.path p (rw (s.told, u.told) at g) in
      let d : element_at s.here p ≡ some u.here = sym (element_below ts s.here.path s.here p s.at) ∙ (ap (element ts) (sym q) ∙ u.at) in
      rw (← s.number, ← u.number) (descend_element p s.here.path s.here s.at ∙ ap (map (λ z. z.number)) d)

  pub descends_place : (x e : ℕ) (p : Path) → x < length T → descend T x p ≡ some e → (e < length T) × (place_below T x e ≡ some p)
  unfolding place_below row_of
  descends_place x e p h g =
      let s = stands x h in
      let (d, a, b) = map_some (λ (z : Element). z.number) (element_at s.here p) (sym (descend_element p s.here.path s.here s.at) ∙ (ap (λ n. descend T n p) s.number ∙ g)) in
      let at : element ts (s.here.path ++ p) ≡ some d = element_below ts s.here.path s.here p s.at ∙ a in
      let u = element_stands (s.here.path ++ p) d at in
      rw (← b) (stands_within d.number u, rw (s.told, row_told_lem (s.here.path ++ p) d at, element_path ts (s.here.path ++ p) d at) (strip_append s.here.path p))

  -- ── Parents ──

  -- element n is a root, the one of its tree
  pub record IsRoot (n : ℕ) : Type 0 where
    pub parent : parent T n ≡ none
    pub line : (row T n).line ≡ n ∷ []
    pub path : (row T n).path ≡ tree T n ∷ []
    pub start : (row T n).start ≡ 0

  -- element m is the parent of element n
  pub record IsParent (m n : ℕ) : Type 0 where
    pub within : m < length T
    pub before : m < n
    pub parent : parent T n ≡ some m
    pub line : (row T n).line ≡ n ∷ (row T m).line
    pub path : (row T n).path ≡ (row T m).path ++ (child T n ∷ [])
    pub tree : tree T n ≡ tree T m
    pub child : get_elem? (row T m).children (child T n) ≡ some n

  -- what element n is in its tree
  pub data Kin (n : ℕ) : Type 0 where
    root : IsRoot n → Kin n
    below : (m : ℕ) → IsParent m n → Kin n

  pub root_kin : (t : ℕ) (e : Element) → element ts (t ∷ []) ≡ some e → IsRoot e.number
  unfolding element root_of element_at bind row_of
  root_kin t e g =
      let (r, a, b) = bind_some (root_of ts t) (λ r. some r) g in
      let (c, f, h) = map_some _ (get_elem? ts t) a in
      let is = sym (h ∙ some_inj b) in
      let told = row_told_lem (t ∷ []) e g in
      let line : (row T e.number).line ≡ e.number ∷ [] = rw told (ap {B = List ℕ} (λ d. e.number ∷ d.above) is) in
      let path : (row T e.number).path ≡ t ∷ [] = rw told (ap (λ d. d.path) is) in
      record { parent = parent_root T e.number e.number line; line = line; path = path ∙ ap {B = Path} (λ x. x ∷ []) (sym (tree_path T e.number t [] path)); start = rw told (ap (λ d. d.start) is) }

  pub child_kin : (t : ℕ) (p : Path) (e c : Element) (i : ℕ) → element ts (t ∷ p) ≡ some e → child_of e i ≡ some c → IsParent e.number c.number × (child T c.number ≡ i)
  unfolding child row_of
  child_kin t p e c i g h =
      let told = row_told_lem (t ∷ p) e g in
      let at = element_child ts (t ∷ p) e c i g h in
      let told' = row_told_lem (t ∷ (p ++ (i ∷ []))) c at in
      let k = child_is e c i h in
      let line : (row T c.number).line ≡ c.number ∷ (row T e.number).line = rw (told', told, k.above) in
      let path : (row T c.number).path ≡ (row T e.number).path ++ (i ∷ []) = rw (told', told) k.path in
      let last : child T c.number ≡ i = ap last path ∙ last_child (row T e.number).path i in (
        record {
          within = stands_within e.number (element_stands (t ∷ p) e g);
          before = omega (arith, k.number);
          parent = parent_some T c.number c.number e.number e.above (line ∙ ap {B = List ℕ} (λ r. c.number ∷ r.line) told);
          line = line;
          path = rw last path;
          tree = tree_path T c.number t (p ++ (i ∷ [])) (rw told' (element_path ts (t ∷ (p ++ (i ∷ []))) c at)) ∙ sym (tree_path T e.number t p (rw told (element_path ts (t ∷ p) e g)));
          child = rw (last, told) (child_number e i ∙ ap (map (λ d. d.number)) h);
        },
        last,
      )

  -- a root, or a child of some element
  pub kin : (n : ℕ) → n < length T → Kin n
  unfolding element
  kin n h = let s = stands n h in rw (← s.number) (go s.here.path s.here s.at)
    where
      go : (p : Path) (e : Element) → element ts p ≡ some e → Kin e.number
      go [] e g = none_some g
      go (t ∷ []) e g = root (root_kin t e g)
      go (t ∷ j ∷ p) e g =
          let q = front (j ∷ p) in
          let i = last (j ∷ p) in
          let (d, a, b) = bind_some (element ts (t ∷ q)) (λ d. element_at d (i ∷ [])) (sym (element_append ts t q (i ∷ [])) ∙ (ap (λ r. element ts (t ∷ r)) (front_last j p) ∙ g)) in
          below d.number (child_kin t q d e i a (element_at_one d e i b)).0

  pub parent_is : (n m : ℕ) → n < length T → parent T n ≡ some m → IsParent m n
  parent_is n m h e = elim (kin n h) [
    | root r ↦ none_some (sym r.parent ∙ e)
    | below k r ↦ rw (← some_inj (sym r.parent ∙ e)) r
  ]

  pub root_is : (n : ℕ) → n < length T → root? T n ≡ true → IsRoot n
  unfolding root?
  root_is n h e = elim (kin n h) [
    | root r ↦ r
    | below k r ↦ bool_absurd e (rw (r.parent, root?))
  ]

  pub not_root : (n : ℕ) → n < length T → root? T n ≡ false → (m : ℕ) × IsParent m n
  unfolding root?
  not_root n h e = elim (kin n h) [
    | root r ↦ bool_absurd (rw (r.parent, root?)) e
    | below k r ↦ (k, r)
  ]

  -- what a row lists as children are its element's children
  pub listed_child : (m n i : ℕ) → m < length T → get_elem? (row T m).children i ≡ some n → IsParent m n × (child T n ≡ i)
  unfolding element
  listed_child m n i h e =
      let s = stands m h in
      let (c, a, b) = map_some (λ (z : Element). z.number) (child_of s.here i) (sym (child_number s.here i) ∙ (ap (λ r. get_elem? r.children i) (sym s.told) ∙ e)) in
      rw (← s.number, ← b) (go s.here.path s.here s.at c a)
    where
      go : (p : Path) (e : Element) → element ts p ≡ some e → (c : Element) → child_of e i ≡ some c → IsParent e.number c.number × (child T c.number ≡ i)
      go [] e g c a = none_some g
      go (t ∷ p) e g c a = child_kin t p e c i g a

  -- ── Ancestors ──

  -- each element of a line is its element or above it; fuel as much as the element's number
  pub line_above : (k n a : ℕ) → n < k → n < length T → Memᴰ a (row T n).line → (a < length T) × ((p : Path) × ((row T n).path ≡ (row T a).path ++ p))
  line_above zero n a l h m = absurd (omega arith)
  line_above (suc k) n a l h m = go (kin n h) (λ b i q. line_above k b a (omega (arith, i.before)) i.within q)
    where
      here : a ≡ n → (a < length T) × ((p : Path) × ((row T n).path ≡ (row T a).path ++ p))
      here e = rw e (h, ([], sym (append-nil (row T n).path)))

      go : Kin n → ((b : ℕ) → IsParent b n → Memᴰ a (row T b).line → (a < length T) × ((p : Path) × ((row T b).path ≡ (row T a).path ++ p)))
          → (a < length T) × ((p : Path) × ((row T n).path ≡ (row T a).path ++ p))
      go (root r) ih = here (Memᴰ.eq_of_singleton (subst (Memᴰ a) r.line m))
      go (below b i) ih = either (Memᴰ.cases_cons (subst (Memᴰ a) i.line m))
        where
          either : (a ≡ n) ⊎ Memᴰ a (row T b).line → (a < length T) × ((p : Path) × ((row T n).path ≡ (row T a).path ++ p))
          either (inl e) = here e
          either (inr q) =
              let (w, (p, z)) = ih b i q in
              (w, (p ++ (child T n ∷ []), i.path ∙ (ap (λ r. r ++ (child T n ∷ [])) z ∙ append_assoc (row T a).path p (child T n ∷ []))))

  -- the element itself and its ancestors have it at or below them
  pub line_place : (n a : ℕ) → n < length T → Memᴰ a (row T n).line → (a < length T) × ((p : Path) × (place_below T a n ≡ some p))
  unfolding place_below
  line_place n a h m =
      let (w, (p, z)) = line_above (suc n) n a (omega arith) h m in
      (w, (p, ap (strip (row T a).path) z ∙ strip_append (row T a).path p))

  -- ── Depths ──

  above_length : (p : Path) (e d : Element) → element_at e p ≡ some d → length d.above ≡ length e.above + length p
  unfolding element_at
  above_length [] e d g = omega (arith, ap (λ x. length x.above) (some_inj g))
  above_length (i ∷ p) e d g =
      let (c, a, b) = bind_some (child_of e i) (λ c. element_at c p) g in
      omega (arith, above_length p c d b, ap length (child_is e c i a).above)

  -- "Depth counts ancestors with the element itself": as many as its path has numbers
  pub depth_path : (n : ℕ) → n < length T → depth T n ≡ length (row T n).path
  unfolding element root_of depth row_of
  depth_path n h = let s = stands n h in rw (s.told, depth) (go s.here.path s.here s.at)
    where
      go : (p : Path) (e : Element) → element ts p ≡ some e → suc (length e.above) ≡ length p
      go [] e g = none_some g
      go (t ∷ p) e g =
          let (r, a, b) = bind_some (root_of ts t) (λ r. element_at r p) g in
          let (c, f, k) = map_some _ (get_elem? ts t) a in
          omega (arith, above_length p r e b, ap (λ x. length x.above) k)
