-- The elements of the new tree by their rows: tree 0 in rows, numbers, text starts.
-- Assumes nothing.
use Rattle.std.specs.Prelude.{◌≡◌, refl, List, [], ◌∷◌, ◌++◌, map, ℕ, zero, suc, ◌+◌, ◌-◌, ◌*◌, ◌≤◌, ◌<◌, length, take, drop, get_or}
use Rattle.std.proofs.Common.{sym, ap, ◌∙◌, append_assoc, append-nil, arith, add-zero, length-append, length-drop, take_at, length-take-le, ne_eqb}
use Rattle.std.proofs.Math.Option
use Rattle.std.proofs.Math.Option.{some, bind}
use Rattle.std.proofs.Math.ListN.{get_elem?}
use Rattle.orders.specs.Tree.{Tree, Trees, node, token, nil, cons, list, forest, Path, resolve, strip, children, elements, elements_of, text, text_of}
use Rattle.orders.specs.ListLaws.{some_inj, none_some, bind_some, get_lt, lt_get, map_append}
use Rattle.definition.specs.Elements.{Table, table, row, rows, rows_below, no_row}
use Rattle.definition.specs.Finishing.{new_tree, new_table, number_at}
use Rattle.definition.specs.Running.{World}
use Rattle.definition_laws.specs.Kin.{resolve_down}
use Rattle.definition_laws.specs.Held.{Leads, number_found}
use Rattle.rows_model.specs.Row.{Row, rows_of, rows_in, rows_all, skip, text_length, bytes, first_rows}
use Rattle.rows_model.specs.Place.{size, place, rows_after, subtree, in_run}
use Rattle.rows_model.proofs.RowLaws.{skip_none, skip_tree, skip_le, size_all_elements}
use Rattle.rows_model.proofs.PlaceLaws.{place_child, place_forest, after_at}
use Rattle.rows_model.proofs.Moves.{strip_place}
use Rattle.rows_model.proofs.Numbers.{element_row}
use Rattle.rows_model.proofs.Words.{length_first}
use Rattle.rows_syntax_node.specs.Promises.{Part}
use Rattle.finish_model.specs.Finished.{first_tree, number_of, starts, start_of}

-- ── Tree 0 in rows ──────────────────────────────────────────────────────────────────────────────────────────

pub first_tree_lem : (t : Tree ℕ) → first_tree (rows_of t) ≡ rows_all (take 1 (list (children t)))
unfolding first_tree subtree children list
first_tree_lem (token k x) = refl
first_tree_lem (node k nil) = refl
first_tree_lem (node k (cons c cs)) =
    let e : skip 1 (rows_of c ++ rows_in cs) ≡ size c = skip_tree c 0 (rows_in cs) ∙ omega (arith, skip_none (rows_in cs)) in
    rw e (take_at (rows_of c) (rows_in cs) (size c) refl ∙ sym (append-nil (rows_of c)))

-- it has a row for each element of the new tree
pub tree_elements : (w : World) → length (first_tree (rows_of w.trees)) ≡ elements_of (forest (new_tree w))
unfolding new_tree
tree_elements w = ap length (first_tree_lem w.trees) ∙ size_all_elements (take 1 (list (children w.trees)))

-- the row behind tree 0
pub tree_end : (rs : List Row) → rows_after rs 1 1 ≡ suc (length (first_tree rs))
unfolding rows_after first_tree subtree
tree_end rs = let e = length-take-le (skip 1 (drop 1 rs)) (drop 1 rs) (skip_le 1 (drop 1 rs)) in omega arith

-- tree 0 has no more rows than stand behind the root of all
pub tree_few : (rs : List Row) → length (first_tree rs) ≤ length rs - 1
unfolding first_tree subtree
tree_few rs = omega (arith, length-take-le (skip 1 (drop 1 rs)) (drop 1 rs) (skip_le 1 (drop 1 rs)), skip_le 1 (drop 1 rs), length-drop 1 rs)

-- so in words
pub tree_short : {rows : List ℕ} {n : ℕ} {tree : List ℕ} → Part rows n 1 tree → 3 * n ≤ length rows → 1 ≤ n → length tree + 3 ≤ 3 * n
unfolding first_tree
tree_short {rows} {n} p h b = omega (arith, p.long [], tree_few (first_rows [] n rows), length_first [] n rows h)

-- ── Numbers ─────────────────────────────────────────────────────────────────────────────────────────────────

-- in one tree alone an element has the number of its row
alone : (c : Tree ℕ) (p : Path) (n : ℕ) → n < length (table 0 0 (c ∷ [])) → (row (table 0 0 (c ∷ [])) n).path ≡ 0 ∷ p → n ≡ place p c
alone c p n h e =
    let a : place (0 ∷ p) (node 0 (forest (c ∷ []))) ≡ suc n = ap (λ q. place q (node 0 (forest (c ∷ [])))) (sym e) ∙ element_row (c ∷ []) 0 n h in
    let b : place (0 ∷ p) (node 0 (forest (c ∷ []))) ≡ suc (0 + place p c) = place_forest 0 (c ∷ []) 0 p c refl in
    omega arith

-- the root of tree 0 stands at row 1
root_place : (t c : Tree ℕ) → resolve (0 ∷ []) t ≡ some c → place (0 ∷ []) t ≡ 1
unfolding resolve
root_place (token k x) c e = none_some e
root_place (node k cs) c e = place_child k cs 0

first_of : (cs : List (Tree ℕ)) (c : Tree ℕ) → get_elem? cs 0 ≡ some c → take 1 cs ≡ c ∷ []
first_of [] c e = none_some e
first_of (d ∷ cs) c e = rw (some_inj e)

-- there is a tree 0 where there is any element
first_there : (t : Tree ℕ) (i : ℕ) (p : Path) (x : Tree ℕ) → resolve (i ∷ p) t ≡ some x → (c : Tree ℕ) × (get_elem? (list (children t)) 0 ≡ some c)
first_there t i p x e =
    let (d, a, b) = bind_some (get_elem? (list (children t)) i) (λ d. resolve p d) (sym (resolve_down i p t) ∙ e) in
    lt_get (list (children t)) 0 (omega (arith, get_lt (list (children t)) i a))

-- an element's row within tree 0 is its path there
row_stripped : (t c x : Tree ℕ) (p : Path) → resolve (0 ∷ []) t ≡ some c → resolve p t ≡ some x → number_of (rows_of t) (place p t) ≡ Option.map (λ r. place r c) (strip (0 ∷ []) p)
unfolding number_of
row_stripped t c x p a b =
    ap (λ n. in_run n (rows_after (rows_of t) n 1) (place p t)) (sym (root_place t c a))
    ∙ (ap (λ n. in_run (place (0 ∷ []) t) n (place p t)) (after_at (0 ∷ []) t c a) ∙ sym (strip_place (0 ∷ []) p t c x a b))

-- The number of an element in the new tree is told by its row.
pub number_row : (w : World) (p : Path) → Leads w.trees p → number_of (rows_of w.trees) (place p w.trees) ≡ number_at (new_table w) p
unfolding strip number_at resolve new_table new_tree bind
number_row w [] l = absurd (omega (arith, l.long))
number_row w (t ∷ p) l =
    let (c, g) = first_there w.trees t p l.found l.there in
    let a : resolve (0 ∷ []) w.trees ≡ some c = resolve_down 0 [] w.trees ∙ rw g in
    row_stripped w.trees c l.found (t ∷ p) a l.there ∙ go t c g l
  where
    go : (t : ℕ) (c : Tree ℕ) → get_elem? (list (children w.trees)) 0 ≡ some c → Leads w.trees (t ∷ p) → Option.map (λ r. place r c) (strip (0 ∷ []) (t ∷ p)) ≡ number_at (new_table w) (t ∷ p)
    go zero c g l =
        let (n, a, h, e) = number_found w p l in
        let T : new_table w ≡ table 0 0 (c ∷ []) = ap (λ ts. table 0 0 ts) (first_of (list (children w.trees)) c g) in
        ap some (sym (alone c p n (rw (← T) h) (ap (λ F. (row F n).path) (sym T) ∙ e))) ∙ sym a
    go (suc t) c g l = rw (ne_eqb 0 (suc t) (omega arith), ne_eqb (suc t) 0 (omega arith))

-- ── Where the text of each element starts ───────────────────────────────────────────────────────────────────

mutual
  unfolding starts rows text

  starts_tree : (t : Tree ℕ) (n : ℕ) (above : List ℕ) (p : Path) (s : ℕ) (r : List Row) → starts s (rows_of t ++ r) ≡ map (λ r. r.start) (rows t n above p s) ++ starts (s + length (text t)) r
  starts_tree (token k x) n above p s r = refl
  starts_tree (node k cs) n above p s r = ap {B = List ℕ} (λ l. s ∷ l) (rw (add-zero s) (starts_trees cs (suc n) (n ∷ above) p 0 s r))

  starts_trees : (cs : Trees ℕ) (n : ℕ) (above : List ℕ) (p : Path) (i s : ℕ) (r : List Row) → starts s (rows_in cs ++ r) ≡ map (λ r. r.start) (rows_below cs n above p i s) ++ starts (s + length (text_of cs)) r
  starts_trees nil n above p i s r = rw (add-zero s)
  starts_trees (cons c cs) n above p i s r =
      let s' = s + length (text c) in
      let z : s' + length (text_of cs) ≡ s + length (text c ++ text_of cs) = omega (arith, length-append (text c) (text_of cs)) in
      ap (starts s) (append_assoc (rows_of c) (rows_in cs) r)
      ∙ (starts_tree c n above (p ++ (i ∷ [])) s (rows_in cs ++ r)
      ∙ (ap {B = List ℕ} (λ l. map (λ r. r.start) (rows c n above (p ++ (i ∷ [])) s) ++ l) (starts_trees cs (n + elements c) above p (suc i) s' r ∙ rw z)
      ∙ (sym (append_assoc (map (λ r. r.start) (rows c n above (p ++ (i ∷ [])) s)) (map (λ r. r.start) (rows_below cs (n + elements c) above p (suc i) s')) (starts (s + length (text c ++ text_of cs)) r))
      ∙ rw (map_append (λ r. r.start) (rows c n above (p ++ (i ∷ [])) s) (rows_below cs (n + elements c) above p (suc i) s')))))

starts_table : (t : Tree ℕ) → starts 0 (first_tree (rows_of t)) ≡ map (λ r. r.start) (table 0 0 (take 1 (list (children t))))
unfolding starts table
starts_table t = ap (starts 0) (first_tree_lem t) ∙ go (list (children t))
  where
    go : (cs : List (Tree ℕ)) → starts 0 (rows_all (take 1 cs)) ≡ map (λ r. r.start) (table 0 0 (take 1 cs))
    go [] = refl
    go (c ∷ cs) = starts_tree c 0 [] (0 ∷ []) 0 [] ∙ sym (map_append (λ r. r.start) (rows c 0 [] (0 ∷ []) 0) [])

-- The text start of an element of the new tree is told by the rows before it.
pub start_row : (w : World) (e : ℕ) → start_of (rows_of w.trees) e ≡ (row (new_table w) e).start
unfolding start_of new_table new_tree row no_row
start_row w e = ap (λ l. get_or l e 0) (starts_table w.trees) ∙ go (table 0 0 (take 1 (list (children w.trees)))) e
  where
    go : (F : Table) (e : ℕ) → get_or (map (λ r. r.start) F) e 0 ≡ (get_or F e no_row).start
    go [] e = refl
    go (r ∷ F) zero = refl
    go (r ∷ F) (suc e) = go F e

-- as a sum: the text of the rows before it
pub starts_at : (rs : List Row) (s e : ℕ) → e < length rs → get_or (starts s rs) e 0 ≡ s + bytes (take e rs)
unfolding starts
starts_at [] s e h = absurd (omega arith)
starts_at (r ∷ rs) s zero h = omega arith
starts_at (r ∷ rs) s (suc e) h = starts_at rs (s + text_length r) e (omega arith) ∙ omega arith
