-- Where the text of an element starts in its tree, by its path: by its row, and in the definition's table.
-- Assumes nothing.
use Rattle.std.specs.Prelude.{◌≡◌, refl, List, [], ◌∷◌, ◌++◌, ℕ, suc, ◌+◌, ◌≤◌, ◌<◌, length, take, drop}
use Rattle.std.proofs.Common.{sym, ap, ◌∙◌, zero-add, arith}
use Rattle.std.proofs.Math.Option.{Option, none, some, map, bind}
use Rattle.std.proofs.Math.ListN.{get_elem?}
use Rattle.std.proofs.Math.Seq.{take-append-add}
use Rattle.std.proofs.lemmas.List.{take-append-le}
use Rattle.orders.specs.ListLaws.{some_inj, none_some, bind_some, map_some}
use Rattle.orders.specs.Tree.{Tree, node, token, list, forest, children, Path, resolve, text_of, elements_of}
use Rattle.orders.proofs.TreeLaws.{resolve_child}
use Rattle.definition.specs.Elements.{table, row, Row as Known}
use Rattle.definition_laws.specs.Rows.{Element, row_of, before, child_of, element_at, root_of, element}
use Rattle.definition_laws.specs.Kin.{element_at_tree, stands}
use Rattle.rows_model.specs.Row.{Row, rows_of, rows_in, rows_all, bytes}
use Rattle.rows_model.specs.Place.{place, size_all, or_zero}
use Rattle.rows_model.proofs.RowLaws.{rows_in_list, rows_get, bytes_append, bytes_all}
use Rattle.rows_model.proofs.PlaceLaws.{place_lt}
use Rattle.rows_path.specs.Offset.{offset}

-- the text of the rows before it
pub path_start : (p : Path) (t u : Tree ℕ) → resolve p t ≡ some u → bytes (take (place p t) (rows_of t)) ≡ offset p t
unfolding offset resolve
path_start [] t u e = refl
path_start (i ∷ p) (token k x) u e = none_some e
path_start (i ∷ p) (node k cs) u e =
    let (c, g, r) = resolve_child k cs i p u e in
    zero-add _ ∙ step (list cs) i p c u r (path_start p c u r) (get_elem? (list cs) i) g (rows_in cs) (rows_in_list cs ∙ rows_get (list cs) i c g)
  where
    below : (p : Path) (c u : Tree ℕ) → resolve p c ≡ some u → place p c ≤ length (rows_of c)
    below p c u r = omega (arith, place_lt p c u r)

    step : (ts : List (Tree ℕ)) (i : ℕ) (p : Path) (c u : Tree ℕ) → resolve p c ≡ some u → bytes (take (place p c) (rows_of c)) ≡ offset p c → (o : Option (Tree ℕ)) → o ≡ some c
        → (rs : List Row) → rs ≡ rows_all (take i ts) ++ (rows_of c ++ rows_all (drop (suc i) ts))
        → bytes (take (size_all (take i ts) + or_zero (place p) o) rs) ≡ length (text_of (forest (take i ts))) + or_zero (offset p) o
    step ts i p c u r ih none q rs z = none_some q
    step ts i p c u r ih (some d) q rs z =
        let X : List Row = rows_all (take i ts) in
        let R : List Row = rows_all (drop (suc i) ts) in
        let dc : d ≡ c = some_inj q in
        ap (λ (y : List Row). bytes (take (length X + place p d) y)) z
        ∙ (ap (λ (t : Tree ℕ). bytes (take (length X + place p t) (X ++ (rows_of c ++ R)))) dc
        ∙ (ap bytes (take-append-add X (rows_of c ++ R) (place p c))
        ∙ (bytes_append X (take (place p c) (rows_of c ++ R))
        ∙ (ap (λ (y : List Row). bytes X + bytes y) (take-append-le (place p c) (rows_of c) R (below p c u r))
        ∙ (ap (λ (y : ℕ). bytes X + y) ih
        ∙ (ap (λ (y : ℕ). y + offset p c) (bytes_all (take i ts)) ∙ ap (λ (t : Tree ℕ). length (text_of (forest (take i ts))) + offset p t) (sym dc)))))))

-- one step down
offset_step : (i : ℕ) (p : Path) (t c : Tree ℕ) → get_elem? (list (children t)) i ≡ some c → offset (i ∷ p) t ≡ length (text_of (forest (take i (list (children t))))) + offset p c
unfolding offset children list
offset_step i p (token k x) c g = none_some g
offset_step i p (node k cs) c g = rw g

start_here : (e x : Element) → e.start ≡ x.start → x.start ≡ e.start + offset [] e.tree
unfolding offset
start_here e x z = omega arith

-- what the definition's table tells of it
pub element_start : (p : Path) (e x : Element) → element_at e p ≡ some x → x.start ≡ e.start + offset p e.tree
unfolding element_at child_of before bind
element_start [] e x h = start_here e x (ap (λ (y : Element). y.start) (some_inj h))
element_start (i ∷ p) e x h =
    let (c, a, b) = bind_some (child_of e i) (λ c. element_at c p) h in
    let (t, g, z) = map_some (λ (c : Tree ℕ). record {
      tree = c;
      number = suc (e.number + elements_of (before e i));
      above = e.number ∷ e.above;
      path = e.path ++ (i ∷ []);
      start = e.start + length (text_of (before e i));
    }) (get_elem? (list (children e.tree)) i) a in
    let ih = element_start p c x b in
    let s : e.start + length (text_of (before e i)) ≡ c.start = ap (λ (y : Element). y.start) z in
    let d : t ≡ c.tree = ap (λ (y : Element). y.tree) z in
    let o = offset_step i p e.tree t g in
    let f : offset p t ≡ offset p c.tree = ap (offset p) d in
    omega arith

-- the row of the element at a path in tree t: its start is the path's
pub record StartTold (ts : List (Tree ℕ)) (k t : ℕ) (p : Path) : Type 0 where
  pub root : Tree ℕ
  pub there : get_elem? ts t ≡ some root
  pub found : Tree ℕ
  pub leads : resolve p root ≡ some found
  pub start : (row (table 0 0 ts) k).start ≡ offset p root

pub table_start : (ts : List (Tree ℕ)) (k t : ℕ) (p : Path) → k < length (table 0 0 ts) → (row (table 0 0 ts) k).path ≡ t ∷ p → StartTold ts k t p
unfolding element root_of row_of
table_start ts k t p h e =
    let s = stands ts k h in
    let x : Element = s.here in
    let q : x.path ≡ t ∷ p = ap (λ (r : Known). r.path) (sym s.told) ∙ e in
    let (r, a, b) = bind_some (root_of ts t) (λ r. element_at r p) (ap (element ts) (sym q) ∙ s.at) in
    let (c, g, z) = map_some (λ c. record { tree = c; number = elements_of (forest (take t ts)); above = []; path = t ∷ []; start = 0 }) (get_elem? ts t) a in
    let d : r.tree ≡ c = ap (λ (y : Element). y.tree) (sym z) in
    let o : r.start ≡ 0 = ap (λ (y : Element). y.start) (sym z) in
    record {
      root = c;
      there = g;
      found = x.tree;
      leads = ap (resolve p) (sym d) ∙ (sym (element_at_tree r p) ∙ ap (map (λ (y : Element). y.tree)) b);
      start = ap (λ (r : Known). r.start) s.told ∙ (element_start p r x b ∙ omega (arith, ap (offset p) d));
    }
