-- Laws for one sweep in preorder. Clause 5: siblings stand in the order of their numbers. Clause 6: an element is at or below a changed one exactly if it is changed, or its parent,
-- which comes first, is at or below one.
-- Assumes nothing.
use Rattle.std.specs.Prelude.{◌≡◌, Bool, true, false, cond, ◌&&◌, ◌||◌, ◌⊎◌, ◌↔◌, ℕ, zero, suc, ◌+◌, ◌≤◌, ◌<◌, eqb, length}
use Rattle.std.proofs.Math.Path.{refl, ap}
use Rattle.std.proofs.Common.{sym, ◌∙◌, inl, inr, arith, eq-eqb, ne_eqb}
use mathlib.Core.List.{List, [], ◌∷◌, ◌++◌}
use Rattle.std.proofs.Math.Option.{none, some}
use Rattle.std.proofs.Math.ListN.{get_elem?}
use Rattle.orders.specs.Lists.{any, All}
use Rattle.orders.specs.ListLaws.{bool_absurd, some_inj, none_some, lt_or_le, All-map}
use Rattle.orders.specs.Tree.{Tree, Trees, node, token, nil, cons, elements, children, Path, strip}
use Rattle.definition.specs.Basics.{is_some, among}
use Rattle.definition.specs.Elements.{Table, numbers, table, row, parent, child, tree, place_below}
use Rattle.definition_laws.specs.Rows.{row_of}
use Rattle.definition_laws.specs.Kin.{IsParent, stands, path_long, path_tells, Kin, root, below, kin, parent_is}
use Rattle.check_laws.specs.Check.{same_bytes, is_covered}
use Rattle.check_laws.specs.ListLaws.{same_bytes_lem}
use Rattle.check_laws.proofs.Meaning.{bytes_same}

-- ── 5: siblings by number ───────────────────────────────────────────────────────────────────────────────────

numbers_after : (cs : Trees ℕ) (n i b : ℕ) → get_elem? (numbers n cs) i ≡ some b → n ≤ b
unfolding numbers
numbers_after nil n i b e = none_some e
numbers_after (cons c cs) n zero b e = omega (arith, some_inj e)
numbers_after (cons c cs) n (suc i) b e = omega (arith, numbers_after cs (n + elements c) i b e)

-- the numbers of trees one behind another rise
children_rise : (cs : Trees ℕ) (n i j a b : ℕ) → get_elem? (numbers n cs) i ≡ some a → get_elem? (numbers n cs) j ≡ some b → i < j → a < b
unfolding numbers elements
children_rise nil n i j a b e f h = none_some e
children_rise (cons c cs) n i zero a b e f h = absurd (omega arith)
children_rise (cons c cs) n zero (suc j) a b e f h = omega (arith, some_inj e, some_there c, numbers_after cs (n + elements c) j b f)
  where
    some_there : (t : Tree ℕ) → 0 < elements t
    some_there (node w ds) = omega arith
    some_there (token w own) = omega arith
children_rise (cons c cs) n (suc i) (suc j) a b e f h = children_rise cs (n + elements c) i j a b e f (omega arith)

-- so of two siblings the one with the lower child number has the lower number
pub sibling_rise : (ts : List (Tree ℕ)) (m x y : ℕ) → IsParent ts m x → IsParent ts m y → child (table 0 0 ts) x < child (table 0 0 ts) y → x < y
unfolding row_of
sibling_rise ts m x y i j h =
    let s = stands ts m i.within in
    let told : (row (table 0 0 ts) m).children ≡ numbers (suc s.here.number) (children s.here.tree) = ap (λ r. r.children) s.told in
    children_rise (children s.here.tree) (suc s.here.number) (child (table 0 0 ts) x) (child (table 0 0 ts) y) x y
    (ap (λ (l : List ℕ). get_elem? l (child (table 0 0 ts) x)) (sym told) ∙ i.child) (ap (λ (l : List ℕ). get_elem? l (child (table 0 0 ts) y)) (sym told) ∙ j.child) h

-- and the other way round
pub sibling_order : (ts : List (Tree ℕ)) (m x y : ℕ) → IsParent ts m x → IsParent ts m y → (child (table 0 0 ts) x < child (table 0 0 ts) y) ↔ (x < y)
sibling_order ts m x y i j = (sibling_rise ts m x y i j, λ l. go l (lt_or_le (child (table 0 0 ts) x) (child (table 0 0 ts) y)))
  where
    go : x < y → (child (table 0 0 ts) x < child (table 0 0 ts) y) ⊎ (child (table 0 0 ts) y ≤ child (table 0 0 ts) x) → child (table 0 0 ts) x < child (table 0 0 ts) y
    go l (inl k) = k
    go l (inr k) = absurd (by (lt_or_le (child (table 0 0 ts) y) (child (table 0 0 ts) x)))
      where
        by : (child (table 0 0 ts) y < child (table 0 0 ts) x) ⊎ (child (table 0 0 ts) x ≤ child (table 0 0 ts) y) → ⊥
        by (inl z) = omega (arith, sibling_rise ts m y x j i z)
        by (inr z) =
            let same : child (table 0 0 ts) x ≡ child (table 0 0 ts) y = omega arith in
            let xy : x ≡ y = some_inj (sym i.child ∙ (ap (λ (k : ℕ). get_elem? (row (table 0 0 ts) m).children k) same ∙ j.child)) in
            omega arith

-- ── 6: what is covered ──────────────────────────────────────────────────────────────────────────────────────

-- below a child's path: below its parent's, or that path itself
strip_child : (c p : Path) (i : ℕ) → is_some (strip c (p ++ (i ∷ []))) ≡ (is_some (strip c p) || same_bytes c (p ++ (i ∷ [])))
unfolding strip is_some same_bytes
strip_child [] p i = refl
strip_child (a ∷ []) [] i = go (eqb a i)
  where
    go : (b : Bool) → is_some {A = Path} (cond b (some []) none) ≡ (b && true)
    go true = refl
    go false = refl
strip_child (a ∷ x ∷ c) [] i = go (eqb a i)
  where
    go : (b : Bool) → is_some {A = Path} (cond b none none) ≡ (b && false)
    go true = refl
    go false = refl
strip_child (a ∷ c) (j ∷ p) i = go (eqb a j) (strip_child c p i)
  where
    go : (b : Bool) → is_some (strip c (p ++ (i ∷ []))) ≡ (is_some (strip c p) || same_bytes c (p ++ (i ∷ []))) → is_some (cond b (strip c (p ++ (i ∷ []))) none) ≡ (is_some (cond b (strip c p) none) || (b && same_bytes c (p ++ (i ∷ []))))
    go true e = e
    go false e = refl

any_either : {A : Type 0} (p a b : A → Bool) (l : List A) → All (λ x. p x ≡ (a x || b x)) l → any p l ≡ (any a l || any b l)
unfolding any
any_either p a b [] h = refl
any_either p a b (x ∷ l) h = rw (h.0, any_either p a b l h.1) (shuffle (a x) (b x) (any a l) (any b l))
  where
    shuffle : (a b c d : Bool) → ((a || b) || (c || d)) ≡ ((a || c) || (b || d))
    shuffle true b c d = refl
    shuffle false true true d = refl
    shuffle false true false d = refl
    shuffle false false c d = refl

module _ (os ns : List (Tree ℕ)) (P : List (ℕ × ℕ)) (changed : List ℕ) where
  abbrev N : Table
  N = table 0 0 ns

  -- an element's path is that of no other
  same_path : (c y : ℕ) → c < length N → y < length N → same_bytes (row N c).path (row N y).path ≡ eqb y c
  same_path c y i l = go (same_bytes (row N c).path (row N y).path) refl
    where
      go : (b : Bool) → same_bytes (row N c).path (row N y).path ≡ b → same_bytes (row N c).path (row N y).path ≡ eqb y c
      go true e = e ∙ sym (eq-eqb y c (sym (path_tells ns c y i l (bytes_same (row N c).path (row N y).path e))))
      go false e = e ∙ sym (ne_eqb y c (λ z. bool_absurd (ap (λ (j : ℕ). same_bytes (row N c).path (row N j).path) z ∙ same_bytes_lem (row N c).path) e))

  or_comm : (a b : Bool) → (a || b) ≡ (b || a)
  or_comm true true = refl
  or_comm true false = refl
  or_comm false true = refl
  or_comm false false = refl

  -- what 19 lets pass
  module _ (named : All (λ c. c < length N) changed) where
    -- a root is at or below a changed element if it is one
    pub covered_root : (y : ℕ) → y < length N → parent N y ≡ none → is_covered os ns P changed y ≡ among changed y
    unfolding is_covered among place_below any strip is_some
    covered_root y l e =
        any_same (λ c. is_some (place_below N c y)) (eqb y) changed (All-map (λ c k. one c k (kin ns y l)) changed named)
      where
        any_same : {A : Type 0} (p q : A → Bool) (l : List A) → All (λ x. p x ≡ q x) l → any p l ≡ any q l
        any_same p q [] h = refl
        any_same p q (x ∷ l) h = rw (h.0, any_same p q l h.1)

        top : (c : Path) (t : ℕ) → 0 < length c → is_some (strip c (t ∷ [])) ≡ same_bytes c (t ∷ [])
        top [] t h = absurd (omega arith)
        top (a ∷ c) t h = strip_child (a ∷ c) [] t

        one : (c : ℕ) → c < length N → Kin ns y → is_some (strip (row N c).path (row N y).path) ≡ eqb y c
        one c k (root r) =
            ap (λ (p : Path). is_some (strip (row N c).path p)) r.path
            ∙ (top (row N c).path (tree N y) (path_long ns c k)
            ∙ (ap (same_bytes (row N c).path) (sym r.path) ∙ same_path c y k l))
        one c k (below m r) = none_some (sym e ∙ r.parent)

    -- any other also if its parent is
    pub covered_below : (y m : ℕ) → y < length N → parent N y ≡ some m → is_covered os ns P changed y ≡ (among changed y || is_covered os ns P changed m)
    unfolding is_covered among place_below
    covered_below y m l e =
        let i = parent_is ns y m l e in
        any_either (λ c. is_some (place_below N c y)) (eqb y) (λ c. is_some (place_below N c m)) changed
        (All-map (λ c k. ap (λ (p : Path). is_some (strip (row N c).path p)) i.path
        ∙ (strip_child (row N c).path (row N m).path (child N y)
        ∙ (ap (λ (p : Path). is_some (strip (row N c).path (row N m).path) || same_bytes (row N c).path p) (sym i.path)
        ∙ (ap (λ (b : Bool). is_some (strip (row N c).path (row N m).path) || b) (same_path c y k l)
        ∙ or_comm (is_some (strip (row N c).path (row N m).path)) (eqb y c))))) changed named)
