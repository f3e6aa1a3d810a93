-- A look tells where a child stands, and what its number is.
-- Assumes nothing.
use Rattle.std.specs.Prelude.{◌≡◌, refl, List, [], ◌∷◌, ◌++◌, ℕ, zero, suc, ◌+◌, ◌-◌, ◌*◌, ◌≤◌, ◌<◌, length, get_or, drop}
use Rattle.std.proofs.Common.{sym, ap, ◌∙◌, arith, length-drop, drop-drop}
use Rattle.std.proofs.Math.Option.{some}
use Rattle.std.proofs.Math.ListN.{get_elem?}
use Rattle.orders.specs.ListLaws.{get_lt}
use Rattle.orders.specs.Tree.{Tree, node, list, Path, resolve}
use Rattle.rows_model.specs.Row.{Row, owes, row_of, rows_of, first_rows, skip, trees_from, trees_in}
use Rattle.rows_model.specs.Place.{place, size, rows_after, child_row}
use Rattle.rows_model.proofs.PlaceLaws.{child_at, place_lt, parent_of, row_at_lem}
use Rattle.rows_model.proofs.Words.{length_first}
use Rattle.rows_children.specs.Tables.{ChildrenTold, BegunTold}

-- ── How many trees begin ────────────────────────────────────────────────────────────────────────────────────

-- what is owed begins no tree
trees_owed : (k : ℕ) (rs : List Row) → trees_from k rs ≡ trees_in rs - k
trees_owed zero [] = refl
trees_owed (suc k) [] = omega arith
trees_owed zero (r ∷ rs) = omega arith
trees_owed (suc k) (r ∷ rs) = omega (arith, trees_owed (k + owes r) rs, trees_owed (owes r) rs)

-- a row is a tree more, and its children are none
pub trees_more : (r : Row) (rs : List Row) → trees_in (r ∷ rs) ≡ suc (trees_in rs - owes r)
trees_more r rs = ap suc (trees_owed (owes r) rs)

-- rows begin a tree
trees_some : (rs : List Row) → 0 < length rs → 0 < trees_in rs
trees_some [] h = absurd (omega arith)
trees_some (r ∷ rs) h = omega arith

-- behind the next j trees there are j fewer
trees_skipped : (j : ℕ) (rs : List Row) → skip j rs < length rs → trees_in rs ≡ j + trees_in (drop (skip j rs) rs)
trees_skipped j [] h = absurd (omega arith)
trees_skipped zero (r ∷ rs) h = omega arith
trees_skipped (suc j) (r ∷ rs) h = omega (arith, trees_more r rs, trees_skipped (j + owes r) rs (omega arith))

module _ (rs : List Row) (p j : ℕ) (h : child_row rs p j < length rs) where
  within : skip j (drop (suc p) rs) < length (drop (suc p) rs)
  unfolding child_row rows_after
  within = omega (arith, h, length-drop (suc p) rs)

  -- a child that stands among the rows is one of the trees behind its parent
  pub child_begins : j < trees_in (drop (suc p) rs)
  child_begins = omega (arith, trees_skipped j (drop (suc p) rs) within, trees_some (drop (skip j (drop (suc p) rs)) (drop (suc p) rs)) (omega (arith, within, length-drop (skip j (drop (suc p) rs)) (drop (suc p) rs))))

  pub trees_behind : trees_in (drop (suc p) rs) ≡ j + trees_in (drop (skip j (drop (suc p) rs)) (drop (suc p) rs))
  trees_behind = trees_skipped j (drop (suc p) rs) within

-- ── A look ──────────────────────────────────────────────────────────────────────────────────────────────────

module _ (text rows : List ℕ) (n : ℕ) (t : Tree ℕ) (long : 3 * n ≤ length rows) (e : first_rows text n rows ≡ rows_of t) where
  many : size t ≡ n
  many = ap length (sym e) ∙ length_first text n rows long

  module _ (q : Path) (i : ℕ) (c : Tree ℕ) (f : resolve (q ++ (i ∷ [])) t ≡ some c) where
    stands : place (q ++ (i ∷ [])) t ≡ child_row (rows_of t) (place q t) i
    stands =
        let (k, cs, a, b) = parent_of q i t c f in
        child_at q t k cs a i (omega (arith, get_lt (list cs) i b))

    low : place (q ++ (i ∷ [])) t < n
    low = omega (arith, place_lt (q ++ (i ∷ [])) t c f, many)

    is_row : child_row (first_rows text n rows) (place q t) i ≡ place (q ++ (i ∷ [])) t
    is_row = ap (λ (rs : List Row). child_row rs (place q t) i) e ∙ sym stands

    -- where a child stands
    pub child_stands : {first child : List ℕ} → ChildrenTold rows n first child → get_or child (get_or first (place q t) 0 + i) 0 ≡ place (q ++ (i ∷ [])) t
    child_stands {first} {child} v =
        let (k, cs, a, b) = parent_of q i t c f in
        let here : get_elem? (first_rows text n rows) (place q t) ≡ some (row_of (node k cs)) = ap (λ (rs : List Row). get_elem? rs (place q t)) e ∙ row_at_lem q t (node k cs) a in
        v.told text (place q t) i (row_of (node k cs)) here (get_lt (list cs) i b) (omega (arith, is_row, low)) ∙ is_row

    -- and what its number is
    pub number_stands : {begun : List ℕ} → BegunTold rows n begun → get_or begun (suc (place q t)) 0 ≡ i + get_or begun (place (q ++ (i ∷ [])) t) 0
    unfolding child_row rows_after
    number_stands {begun} v =
        let p : ℕ = place q t in
        let r : ℕ = place (q ++ (i ∷ [])) t in
        let rs : List Row = first_rows text n rows in
        let within : child_row rs p i < length rs = omega (arith, is_row, low, length_first text n rows long) in
        let at : suc p + skip i (drop (suc p) rs) ≡ r = is_row in
        let behind : drop (skip i (drop (suc p) rs)) (drop (suc p) rs) ≡ drop r rs = drop-drop (skip i (drop (suc p) rs)) (suc p) rs ∙ ap (λ (j : ℕ). drop j rs) at in
        v.told text (suc p) (omega (arith, at, low)) ∙ (trees_behind rs p i within ∙ ap (λ (k : ℕ). i + k) (ap trees_in behind ∙ sym (v.told text r low)))
