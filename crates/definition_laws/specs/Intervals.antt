-- Where the elements at or below siblings stand: from the first sibling's number on, up to the element after the last one's subtree.
-- Assumes nothing.
use Rattle.std.specs.Prelude.{◌≡◌, Bool, true, false, ◌&&◌, ◌⊎◌, ltb, length, take}
use Rattle.std.proofs.Math.Path.{refl, sym, ap, subst}
use Rattle.std.proofs.Common.{◌∙◌, inl, inr}
use mathlib.Core.List.{List, [], ◌∷◌, ◌++◌, Memᴰ}
use Rattle.std.proofs.Math.Logic.{⊎_elim}
use Rattle.std.proofs.Math.Option.{Option, none, some, bind}
use Prim.Native.Nat.{ℕ, zero, suc, ◌+◌, ◌-◌, ◌≤◌, ◌<◌}
use native.Mathlib.Omega.{arith}
use Rattle.std.proofs.Math.Dec.{leb}
use Rattle.std.proofs.Math.ListN.{get_elem?}
use borrow.Author.Tests.{leb-true, le-leb, lt-leb, lt-ltb, le-ltb}
use Rattle.orders.specs.ListLaws.{bool_absurd, both_true, some_inj, none_some, map_some, bind_some, lt_or_le, any_mem, mem_any}
use Rattle.orders.specs.Tree.{Tree, list, forest, Path, elements, elements_of, text_of, children, front, last}
use Rattle.orders.proofs.TreeLaws.{front_last}
use Rattle.definition.specs.Elements.{Table, table, row, parent, child}
use Rattle.definition.specs.Refusals.{same_parent}
use Rattle.definition.specs.EdgeRule.{in_run, at_or_below}
use Rattle.definition_laws.specs.Rows.{Element, row_of, before, child_of, element_at, root_of, element, row_below, child_within, reach_tree}
use Rattle.definition_laws.specs.Kin.{child_is, element_append, element_path, element_below, element_child, element_at_one, Stands, row_told_lem, element_stands, stands, stands_within, line_above, root_kin, child_kin, parent_is}
use Rattle.definition_laws.specs.Right.{same_parent_lem, parent_same}

-- ── Trees one behind another ────────────────────────────────────────────────────────────────────────────────

-- a tree's elements all stand before those of a later one
in_order : (l : List (Tree ℕ)) (i j : ℕ) (c d : Tree ℕ) → get_elem? l i ≡ some c → get_elem? l j ≡ some d → i < j → elements_of (forest (take i l)) + elements c ≤ elements_of (forest (take j l))
unfolding forest elements
in_order [] i j c d g h b = none_some g
in_order (x ∷ l) i zero c d g h b = absurd (omega arith)
in_order (x ∷ l) zero (suc j) c d g h b = rw (some_inj g) (omega arith)
in_order (x ∷ l) (suc i) (suc j) c d g h b = omega (arith, in_order l i j c d g h (omega arith))

-- the tree in which element k stands
record Among (l : List (Tree ℕ)) (k : ℕ) : Type 0 where
  i : ℕ
  c : Tree ℕ
  found : get_elem? l i ≡ some c
  from : elements_of (forest (take i l)) ≤ k
  to : k < elements_of (forest (take i l)) + elements c

among_trees : (l : List (Tree ℕ)) (k : ℕ) → k < elements_of (forest l) → Among l k
unfolding forest elements
among_trees [] k h = absurd (omega arith)
among_trees (x ∷ l) k h = go (lt_or_le k (elements x)) (λ b. among_trees l (k - elements x) (omega arith))
  where
    go : (k < elements x) ⊎ (elements x ≤ k) → (elements x ≤ k → Among l (k - elements x)) → Among (x ∷ l) k
    go (inl b) f = record { i = 0; c = x; found = refl; from = omega arith; to = omega arith }
    go (inr b) f = let r = f b in record { i = suc r.i; c = r.c; found = r.found; from = omega (arith, r.from); to = omega (arith, r.to) }

-- ── Lines ───────────────────────────────────────────────────────────────────────────────────────────────────

-- whoever stands in the line of an element stands in the lines of those below it
line_down : (p : Path) (e d : Element) (x : ℕ) → element_at e p ≡ some d → Memᴰ x (e.number ∷ e.above) → Memᴰ x (d.number ∷ d.above)
unfolding element_at
line_down [] e d x g m = rw (← some_inj g) m
line_down (i ∷ p) e d x g m =
    let (c, a, b) = bind_some (child_of e i) (λ c. element_at c p) g in
    line_down p c d x b (mathlib.Core.List.Memᴰ.tail (rw (child_is e c i a).above m))

module _ (ts : List (Tree ℕ)) where
  abbrev T : Table
  T = table 0 0 ts

  -- how many elements stand at or below e
  unfoldable pub size_at : ℕ → ℕ
  size_at e = elim (element ts (row T e).path) [ none ↦ 0 | some d ↦ elements d.tree ]

  -- the element after the subtree of e
  unfoldable pub after : ℕ → ℕ
  after e = e + size_at e

  element_told : (p : Path) (e : Element) → element ts p ≡ some e → element ts (row T e.number).path ≡ some e
  unfolding row_of
  element_told p e g = ap (λ r. element ts r.path) (row_told_lem ts p e g) ∙ (ap (element ts) (element_path ts p e g) ∙ g)

  pub after_element : (p : Path) (e : Element) → element ts p ≡ some e → after e.number ≡ e.number + elements e.tree
  unfolding after size_at
  after_element p e g = rw (element_told p e g, size_at)

  pub after_stands : (e : ℕ) (s : Stands ts e) → after e ≡ e + elements s.here.tree
  after_stands e s = rw (← s.number) (after_element s.here.path s.here s.at)

  -- a stands in the line of e exactly if e stands from a on, before the element after a's subtree
  pub line_interval : (a e : ℕ) → e < length T → Memᴰ a (row T e).line → (a < length T) × (a ≤ e) × (e < after a)
  unfolding row_of
  line_interval a e h m =
      let (w, (p, z)) = line_above ts (suc e) e a (omega arith) h m in
      let s = stands ts a w in
      let u = stands ts e h in
      let q : u.here.path ≡ s.here.path ++ p = ap (λ r. r.path) (sym u.told) ∙ (z ∙ ap (λ r. r.path ++ p) s.told) in
      let at : element_at s.here p ≡ some u.here = sym (element_below ts s.here.path s.here p s.at) ∙ (ap (element ts) (sym q) ∙ u.at) in
      let b = row_below s.here u.here p at in
      (w, omega (arith, b.number, s.number, u.number), omega (arith, b.number, b.within, s.number, u.number, after_stands a s))

  pub interval_line : (a e : ℕ) → a < length T → e < length T → a ≤ e → e < after a → Memᴰ a (row T e).line
  unfolding row_of
  interval_line a e h k low high =
      let s = stands ts a h in
      let u = stands ts e k in
      let r = reach_tree s.here.tree s.here (e - a) (omega (arith, after_stands a s)) in
      let d : Element = r.found in
      let at : element ts (s.here.path ++ r.path) ≡ some d = element_below ts s.here.path s.here r.path s.at ∙ r.at in
      let n : d.number ≡ e = omega (arith, r.number, s.number) in
      let told : row T e ≡ row_of d = ap (row T) (sym n) ∙ row_told_lem ts (s.here.path ++ r.path) d at in
      let m : Memᴰ s.here.number (d.number ∷ d.above) = line_down r.path s.here d s.here.number r.at (mathlib.Core.List.Memᴰ.head refl) in
      subst (λ (x : ℕ). Memᴰ x (row T e).line) s.number (rw told m)

  -- ── Families ──

  -- the trees among which siblings stand, those of this parent or the roots, and the number of their first element
  unfoldable family : Option ℕ → ℕ × List (Tree ℕ)
  family none = (0, ts)
  family (some m) = (suc m, elim (element ts (row T m).path) [ none ↦ [] | some d ↦ list (children d.tree) ])

  -- z is member i of such a family, with the elements of c
  record Member (o : Option ℕ) (i z : ℕ) (c : Tree ℕ) : Type 0 where
    within : z < length T
    parent : parent T z ≡ o
    child : child T z ≡ i
    found : get_elem? (family o).1 i ≡ some c
    number : z ≡ (family o).0 + elements_of (forest (take i (family o).1))
    size : after z ≡ z + elements c

  root_member : (t : ℕ) (e : Element) → element ts (t ∷ []) ≡ some e → Member none t e.number e.tree
  unfolding element root_of element_at bind family child row_of last
  root_member t e g =
      let (r, a, b) = bind_some (root_of ts t) (λ r. some r) g in
      let (c, f, h) = map_some _ (get_elem? ts t) a in
      let is = sym (h ∙ some_inj b) in
      record {
        within = stands_within ts e.number (element_stands ts (t ∷ []) e g);
        parent = (root_kin ts t e g).parent;
        child = ap last (ap (λ r. r.path) (row_told_lem ts (t ∷ []) e g) ∙ element_path ts (t ∷ []) e g);
        found = f ∙ ap {B = Option (Tree ℕ)} (λ d. some d.tree) (sym is);
        number = omega (arith, ap (λ d. d.number) is);
        size = after_element (t ∷ []) e g;
      }

  child_member : (t : ℕ) (p : Path) (d e : Element) (i : ℕ) → element ts (t ∷ p) ≡ some d → child_of d i ≡ some e → Member (some d.number) i e.number e.tree
  unfolding family before
  child_member t p d e i g h =
      let (k, i') = child_kin ts t p d e i g h in
      let c = child_is d e i h in
      let at = element_child ts (t ∷ p) d e i g h in
      let same : family (some d.number) ≡ (suc d.number, list (children d.tree)) = rw (element_told (t ∷ p) d g, family) in
      record {
        within = stands_within ts e.number (element_stands ts ((t ∷ p) ++ (i ∷ [])) e at);
        parent = k.parent;
        child = i';
        found = rw same c.found;
        number = rw same (omega (arith, c.number));
        size = after_element ((t ∷ p) ++ (i ∷ [])) e at;
      }

  -- each element is a member of its parent's family
  member : (z : ℕ) → z < length T → (c : Tree ℕ) × Member (parent T z) (child T z) z c
  unfolding element
  member z h = let s = stands ts z h in rw (← s.number) (go s.here.path s.here s.at)
    where
      of : (o : Option ℕ) (i n : ℕ) (c : Tree ℕ) → Member o i n c → (c : Tree ℕ) × Member (parent T n) (child T n) n c
      of o i n c m = rw (m.parent, m.child) (c, m)

      go : (p : Path) (e : Element) → element ts p ≡ some e → (c : Tree ℕ) × Member (parent T e.number) (child T e.number) e.number c
      go [] e g = none_some g
      go (t ∷ []) e g = of none t e.number e.tree (root_member t e g)
      go (t ∷ j ∷ p) e g =
          let q = front (j ∷ p) in
          let i = last (j ∷ p) in
          let (d, a, b) = bind_some (element ts (t ∷ q)) (λ d. element_at d (i ∷ [])) (sym (element_append ts t q (i ∷ [])) ∙ (ap (λ r. element ts (t ∷ r)) (front_last j p) ∙ g)) in
          of (some d.number) i e.number e.tree (child_member t q d e i a (element_at_one d e i b))

  -- and whoever stands in the family of y's parent is an element with that parent
  member_at : (y : ℕ) → y < length T → (i : ℕ) (c : Tree ℕ) → get_elem? (family (parent T y)).1 i ≡ some c
      → Member (parent T y) i ((family (parent T y)).0 + elements_of (forest (take i (family (parent T y)).1))) c
  unfolding family element root_of element_at bind child_of before
  member_at y h i c g = go (parent T y) refl g
    where
      root : get_elem? ts i ≡ some c → Member none i (0 + elements_of (forest (take i ts))) c
      root g =
          let e : Element = record { tree = c; number = elements_of (forest (take i ts)); above = []; path = i ∷ []; start = 0 } in
          let z : 0 + elements_of (forest (take i ts)) ≡ elements_of (forest (take i ts)) = omega arith in
          rw z (root_member i e (rw g))

      below : (p : Path) (d : Element) → element ts p ≡ some d → get_elem? (family (some d.number)).1 i ≡ some c
          → Member (some d.number) i ((family (some d.number)).0 + elements_of (forest (take i (family (some d.number)).1))) c
      below [] d g f = none_some g
      below (t ∷ p) d g f =
          let same : family (some d.number) ≡ (suc d.number, list (children d.tree)) = rw (element_told (t ∷ p) d g, family) in
          let e : Element = record { tree = c; number = suc (d.number + elements_of (before d i)); above = d.number ∷ d.above; path = d.path ++ (i ∷ []); start = d.start + length (text_of (before d i)) } in
          let n : (family (some d.number)).0 + elements_of (forest (take i (family (some d.number)).1)) ≡ suc (d.number + elements_of (before d i)) = rw same (omega arith) in
          rw n (child_member t p d e i g (rw (rw same at f)))

      go : (o : Option ℕ) → parent T y ≡ o → get_elem? (family o).1 i ≡ some c → Member o i ((family o).0 + elements_of (forest (take i (family o).1))) c
      go none e g = root g
      go (some m) e g =
          let s = stands ts m (parent_is ts y m h e).within in
          subst (λ (k : ℕ). get_elem? (family (some k)).1 i ≡ some c → Member (some k) i ((family (some k)).0 + elements_of (forest (take i (family (some k)).1))) c) s.number
          (below s.here.path s.here s.at) g

  -- ── Siblings ──

  -- a sibling's elements all stand before those of a later one
  siblings_rise : {o : Option ℕ} {i j u v : ℕ} {c d : Tree ℕ} → Member o i u c → Member o j v d → i ≤ j → (u ≤ v) × (after u ≤ after v)
  siblings_rise {o} {i} {j} {u} {v} {c} {d} m n h = go (lt_or_le i j)
    where
      go : (i < j) ⊎ (j ≤ i) → (u ≤ v) × (after u ≤ after v)
      go (inl b) =
          let k = in_order (family o).1 i j c d m.found n.found b in
          (omega (arith, m.number, n.number), omega (arith, m.number, n.number, m.size, n.size))
      go (inr b) =
          let e : i ≡ j = omega arith in
          let z : u ≡ v = m.number ∙ (ap (λ (k : ℕ). (family o).0 + elements_of (forest (take k (family o).1))) e ∙ sym n.number) in
          (omega arith, rw z (omega arith))

  pub record Siblings (x y : ℕ) : Type 0 where
    pub first : x < length T
    pub last : y < length T
    pub parent : parent T x ≡ parent T y
    pub order : child T x ≤ child T y

  module _ {x y : ℕ} (r : Siblings x y) (e : ℕ) (h : e < length T) where
    -- both ends in one family
    o : Option ℕ
    o = parent T x

    from : (c : Tree ℕ) × Member o (child T x) x c
    unfolding o
    from = member x r.first

    to : (c : Tree ℕ) × Member o (child T y) y c
    unfolding o
    to = rw r.parent (member y r.last)

    inside : at_or_below T x y e ≡ true → (x ≤ e) × (e < after y)
    unfolding at_or_below in_run o
    inside q =
        let (z, m, p) = any_mem (in_run T x y) (row T e).line q in
        let (p, high) = both_true (same_parent (parent T z) (parent T x) && leb (child T x) (child T z)) (leb (child T z) (child T y)) p in
        let (p, low) = both_true (same_parent (parent T z) (parent T x)) (leb (child T x) (child T z)) p in
        let (w, a, b) = line_interval z e h m in
        let s : (c : Tree ℕ) × Member (parent T x) (child T z) z c = rw (← same_parent_lem (parent T z) (parent T x) p) (member z w) in
        let f = siblings_rise from.1 s.1 (leb-true (child T x) (child T z) low) in
        let g = siblings_rise s.1 to.1 (leb-true (child T z) (child T y) high) in
        (omega (arith, f.0), omega (arith, g.1))

    outside : x ≤ e → e < after y → at_or_below T x y e ≡ true
    unfolding at_or_below in_run o
    outside low high =
        let l : List (Tree ℕ) = (family (parent T x)).1 in
        let base : ℕ = (family (parent T x)).0 in
        let ends = child_within l (child T y) to.0 to.1.found in
        let a = among_trees l (e - base) (omega (arith, to.1.number, to.1.size, from.1.number)) in
        let z : ℕ = base + elements_of (forest (take a.i l)) in
        let m = member_at x r.first a.i a.c a.found in
        let line = interval_line z e m.within h (omega (arith, a.from, from.1.number)) (omega (arith, a.to, m.size, from.1.number)) in
        let first : child T x ≤ a.i =
        ⊎_elim (λ b. absurd (omega (arith, in_order l a.i (child T x) a.c from.0 a.found from.1.found b, a.to, from.1.number))) (λ b. b) (lt_or_le a.i (child T x)) in
        let last : a.i ≤ child T y =
        ⊎_elim (λ b. absurd (omega (arith, in_order l (child T y) a.i to.0 a.c to.1.found a.found b, a.from, from.1.number, to.1.number, to.1.size))) (λ b. b) (lt_or_le (child T y) a.i) in
        mem_any (in_run T x y) (row T e).line z line
        (rw (m.parent, m.child, parent_same (parent T x), le-leb (child T x) a.i first, le-leb a.i (child T y) last))

    -- THE LAW: e is at or below one of the siblings from x to y exactly if it stands from x on, before the element after the subtree of y
    pub interval : at_or_below T x y e ≡ (leb x e && ltb e (after y))
    interval = go (at_or_below T x y e) refl (lt_or_le e x) (lt_or_le e (after y))
      where
        go : (b : Bool) → at_or_below T x y e ≡ b → (e < x) ⊎ (x ≤ e) → (e < after y) ⊎ (after y ≤ e) → at_or_below T x y e ≡ (leb x e && ltb e (after y))
        go true q f g = let (low, high) = inside q in rw (q, le-leb x e low, lt-ltb e (after y) high)
        go false q (inl b) g = rw (q, lt-leb x e b)
        go false q (inr a) (inl b) = bool_absurd (outside a b) q
        go false q (inr a) (inr b) = rw (q, le-leb x e a, le-ltb e (after y) b)
