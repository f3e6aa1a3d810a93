-- The text ranges of the elements of one tree: each is within the tree's text, and those of two elements, neither at or below the other, share no byte.
-- Assumes nothing.
use Rattle.std.specs.Prelude.{◌≡◌, ◌⊎◌, ℕ, zero, suc, ◌+◌, ◌≤◌, ◌<◌, take}
use Rattle.std.proofs.Common.{sym, ap₂, ◌∙◌, inl, inr, length-append, eq-eqb}
use Rattle.std.proofs.Math.Path.{ap}
use mathlib.Core.List.{List, [], ◌∷◌}
use Rattle.std.proofs.Math.Option.{none, some, bind}
use native.Mathlib.Omega.{arith}
use Rattle.std.proofs.Math.ListN.{length, get_elem?, get_or-eq_default}
use Rattle.orders.specs.ListLaws.{some_inj, none_some, bind_some, map_some, lt_or_le, get_lt}
use Rattle.orders.specs.Tree.{Tree, Trees, node, token, list, forest, Path, text, text_of, children, elements, strip}
use Rattle.orders.proofs.TreeLaws.{forest_list}
use Rattle.definition.specs.Elements.{Row, Table, table, no_row, row, place_below}
use Rattle.definition_laws.specs.Rows.{Element, row_of, before, child_of, element_at, root_of, element}
use Rattle.definition_laws.specs.Kin.{child_is, stands}

-- ── Children ────────────────────────────────────────────────────────────────────────────────────────────────

-- the text before a tree, and its own, are before every later tree
before_later : (l : List (Tree ℕ)) (i j : ℕ) (c : Tree ℕ) → get_elem? l i ≡ some c → i < j → length (text_of (forest (take i l))) + length (text c) ≤ length (text_of (forest (take j l)))
unfolding forest text
before_later [] i j c g h = none_some g
before_later (x ∷ l) i zero c g h = absurd (omega arith)
before_later (x ∷ l) zero (suc j) c g h = omega (arith, ap (λ (t : Tree ℕ). length (text t)) (some_inj g), length-append (text x) (text_of (forest (take j l))))
before_later (x ∷ l) (suc i) (suc j) c g h = omega (arith, before_later l i j c g (omega arith), length-append (text x) (text_of (forest (take i l))), length-append (text x) (text_of (forest (take j l))))

-- and within the text of all
before_all : (l : List (Tree ℕ)) (j : ℕ) → length (text_of (forest (take j l))) ≤ length (text_of (forest l))
unfolding forest text
before_all [] zero = omega arith
before_all [] (suc j) = omega arith
before_all (x ∷ l) zero = omega arith
before_all (x ∷ l) (suc j) = omega (arith, before_all l j, length-append (text x) (text_of (forest (take j l))), length-append (text x) (text_of (forest l)))

-- where an element's text ends
abbrev end : Element → ℕ
end e = e.start + length (text e.tree)

child_in : (e c : Element) (i : ℕ) → child_of e i ≡ some c → (e.start ≤ c.start) × (end c ≤ end e)
unfolding before children list text
child_in e c i g = let k = child_is e c i g in (omega (arith, k.start), omega (arith, k.start, go e.tree k.found))
  where
    go : (t : Tree ℕ) → get_elem? (list (children t)) i ≡ some c.tree → length (text_of (forest (take i (list (children t))))) + length (text c.tree) ≤ length (text t)
    go (token w own) f = none_some f
    go (node w cs) f = omega (arith, before_later (list cs) i (suc i) c.tree f (omega arith), before_all (list cs) (suc i), ap (λ (t : Trees ℕ). length (text_of t)) (forest_list cs))

-- of two children, the first one's text ends before the second one's starts
children_apart : (e c d : Element) (i j : ℕ) → child_of e i ≡ some c → child_of e j ≡ some d → i < j → end c ≤ d.start
unfolding before
children_apart e c d i j g h l =
    let k = child_is e c i g in
    let m = child_is e d j h in
    omega (arith, k.start, m.start, before_later (list (children e.tree)) i j c.tree k.found l)

-- ── Below an element ────────────────────────────────────────────────────────────────────────────────────────

pub below_in : (p : Path) (e d : Element) → element_at e p ≡ some d → (e.start ≤ d.start) × (end d ≤ end e)
unfolding element_at
below_in [] e d g = rw (some_inj g) (omega arith, omega arith)
below_in (i ∷ p) e d g =
    let (c, a, b) = bind_some (child_of e i) (λ c. element_at c p) g in
    let k = child_in e c i a in
    let m = below_in p c d b in
    (omega (arith, k.0, m.0), omega (arith, k.1, m.1))

pub below_apart : (p q : Path) (e c d : Element) → element_at e p ≡ some c → element_at e q ≡ some d → strip p q ≡ none → strip q p ≡ none → (end c ≤ d.start) ⊎ (end d ≤ c.start)
unfolding element_at strip
below_apart [] q e c d g h s t = none_some (sym s)
below_apart (i ∷ p) [] e c d g h s t = none_some (sym t)
below_apart (i ∷ p) (j ∷ q) e c d g h s t =
    let (x, a, b) = bind_some (child_of e i) (λ x. element_at x p) g in
    let (y, f, k) = bind_some (child_of e j) (λ y. element_at y q) h in
    go x y a b f k (lt_or_le i j) (lt_or_le j i) (λ z. below_apart p q x c d b z)
  where
    go : (x y : Element) → child_of e i ≡ some x → element_at x p ≡ some c → child_of e j ≡ some y → element_at y q ≡ some d → (i < j) ⊎ (j ≤ i) → (j < i) ⊎ (i ≤ j)
        → (element_at x q ≡ some d → strip p q ≡ none → strip q p ≡ none → (end c ≤ d.start) ⊎ (end d ≤ c.start)) → (end c ≤ d.start) ⊎ (end d ≤ c.start)
    go x y a b f k (inl l) o ih = inl (omega (arith, (below_in p x c b).1, children_apart e x y i j a f l, (below_in q y d k).0))
    go x y a b f k (inr l) (inl m) ih = inr (omega (arith, (below_in q y d k).1, children_apart e y x j i f a m, (below_in p x c b).0))
    go x y a b f k (inr l) (inr m) ih =
        let z : i ≡ j = omega arith in
        let same : x ≡ y = some_inj (sym a ∙ (ap (child_of e) z ∙ f)) in
        ih (ap (λ (u : Element). element_at u q) same ∙ k) (rw (eq-eqb i j z) at s) (rw (eq-eqb j i (sym z)) at t)

-- ── The table of one tree ───────────────────────────────────────────────────────────────────────────────────

module _ (t : Tree ℕ) where
  abbrev F : Table
  F = table 0 0 (t ∷ [])

  abbrev top : Element
  top = record { tree = t; number = 0; above = []; path = 0 ∷ []; start = 0 }

  -- every row is that of an element below the root, or of none
  data Known (n : ℕ) : Type 0 where
    there : (p : Path) (e : Element) → element_at top p ≡ some e → e.path ≡ 0 ∷ p → row F n ≡ row_of e → Known n
    nowhere : row F n ≡ no_row → Known n

  from_top : (p : Path) (e : Element) → element (t ∷ []) p ≡ some e → (q : Path) × (p ≡ 0 ∷ q) × (element_at top q ≡ some e)
  unfolding element root_of forest elements bind
  from_top [] e g = none_some g
  from_top (i ∷ p) e g =
      let (r, a, b) = bind_some (root_of (t ∷ []) i) (λ r. element_at r p) g in
      let (c, f, h) = map_some _ (get_elem? (t ∷ []) i) a in
      let z : i ≡ 0 = omega (arith, get_lt (t ∷ []) i f) in
      (p, ap {B = Path} (λ (j : ℕ). j ∷ p) z, ap (λ (j : ℕ). bind (root_of (t ∷ []) j) (λ r. element_at r p)) (sym z) ∙ g)

  known : (n : ℕ) → Known n
  unfolding row
  known n = go (lt_or_le n (length F))
    where
      go : (n < length F) ⊎ (length F ≤ n) → Known n
      go (inl l) =
          let s = stands (t ∷ []) n l in
          let (q, z, a) = from_top s.here.path s.here s.at in
          there q s.here a z s.told
      go (inr l) = nowhere (get_or-eq_default F no_row l)

  -- a text range is within the text
  pub range_in : (n : ℕ) → ((row F n).start ≤ (row F n).end) × ((row F n).end ≤ length (text t))
  unfolding no_row row_of
  range_in n = elim (known n) [
    | there p e a z r ↦ rw r (omega arith, omega (arith, (below_in p top e a).1))
    | nowhere r ↦ rw r (omega arith, omega arith)
  ]

  -- neither at or below the other: no byte is in both
  pub ranges_apart : (m n : ℕ) → place_below F m n ≡ none → place_below F n m ≡ none → ((row F m).end ≤ (row F n).start) ⊎ ((row F n).end ≤ (row F m).start)
  unfolding place_below no_row row_of strip
  ranges_apart m n a b = go (known m) (known n)
    where
      go : Known m → Known n → ((row F m).end ≤ (row F n).start) ⊎ ((row F n).end ≤ (row F m).start)
      go (nowhere r) k = none_some (sym (ap (λ (x : Row). strip x.path (row F n).path) (sym r) ∙ a))
      go (there p e g z r) (nowhere s) = none_some (sym (ap (λ (x : Row). strip x.path (row F m).path) (sym s) ∙ b))
      go (there p e g z r) (there q d h y s) =
          rw (r, s) (below_apart p q top e d g h
          (sym (ap₂ strip z y) ∙ (ap₂ (λ (x u : Row). strip x.path u.path) (sym r) (sym s) ∙ a))
          (sym (ap₂ strip y z) ∙ (ap₂ (λ (x u : Row). strip x.path u.path) (sym s) (sym r) ∙ b)))
