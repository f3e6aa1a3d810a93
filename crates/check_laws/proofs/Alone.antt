-- The first tree, taken alone, is as it is among all.
-- Assumes nothing.
use Rattle.std.specs.Prelude.{◌≡◌, refl, List, [], ◌∷◌, ℕ, ◌+◌, ◌<◌, length, take}
use Rattle.std.proofs.Common.{sym, ap, ◌∙◌, arith, length-append}
use Rattle.std.proofs.Math.Option.{Option, some, bind}
use Rattle.std.proofs.Math.ListN.{get_elem?}
use Rattle.orders.specs.ListLaws.{map_some, bind_some, get_lt, get_take}
use Rattle.orders.specs.Tree.{Tree, node, token, forest, list, children, elements, Path, resolve}
use Rattle.orders.proofs.TreeLaws.{list_forest}
use Rattle.definition.specs.Elements.{Table, rows, table, row, no_row, parent, child}
use Rattle.definition_laws.specs.Rows.{Element, row_of, element}
use Rattle.definition_laws.specs.Kin.{path_leads, path_long, path_tells, resolve_down, element_tree, element_path, row_told_lem, element_stands, stands_within}
use Rattle.check_laws.specs.ListLaws.{get_d_left}

-- what is known of each element of the first tree, taken alone
abbrev pub first_table : List (Tree ℕ) → Table
first_table ts = table 0 0 (take 1 ts)

-- what a path of the first tree leads to
pub first_resolve : (ts : List (Tree ℕ)) (k j : ℕ) (q : Path) → resolve (0 ∷ q) (node k (forest (take 1 ts))) ≡ resolve (0 ∷ q) (node j (forest ts))
unfolding children
first_resolve ts k j q =
    resolve_down 0 q (node k (forest (take 1 ts)))
    ∙ (ap (λ (m : List (Tree ℕ)). bind (get_elem? m 0) (λ c. resolve q c)) (list_forest (take 1 ts))
    ∙ (ap (λ (o : Option (Tree ℕ)). bind o (λ c. resolve q c)) (get_take 1 ts 0 (omega arith))
    ∙ (ap (λ (m : List (Tree ℕ)). bind (get_elem? m 0) (λ c. resolve q c)) (sym (list_forest ts))
    ∙ sym (resolve_down 0 q (node j (forest ts))))))

-- the same of all trees as the children of one node
pub tops_resolve : (t : Tree ℕ) (k : ℕ) (q : Path) → resolve (0 ∷ q) (node k (forest (take 1 (list (children t))))) ≡ resolve (0 ∷ q) t
unfolding children
tops_resolve t k q =
    first_resolve (list (children t)) k k q
    ∙ (resolve_down 0 q (node k (forest (list (children t))))
    ∙ (ap (λ (m : List (Tree ℕ)). bind (get_elem? m 0) (λ c. resolve q c)) (list_forest (list (children t)))
    ∙ sym (resolve_down 0 q t)))

-- a row is as it is among all
pub first_row : (ts : List (Tree ℕ)) (x : ℕ) → x < length (first_table ts) → (x < length (table 0 0 ts)) × (row (first_table ts) x ≡ row (table 0 0 ts) x)
unfolding table row
first_row [] x h = absurd (omega arith)
first_row (c ∷ cs) x h =
    let r = rows c 0 [] (0 ∷ []) 0 in
    let l : x < length r = omega (arith, length-append r []) in
    (omega (arith, length-append r (table (0 + elements c) 1 cs)), get_d_left r [] x no_row l ∙ sym (get_d_left r (table (0 + elements c) 1 cs) x no_row l))

-- there is one
pub first_there : (ts : List (Tree ℕ)) → 0 < length ts → 0 < length (first_table ts)
unfolding table rows
first_there [] h = absurd (omega arith)
first_there (node w ds ∷ cs) h = omega arith
first_there (token w own ∷ cs) h = omega arith

-- and its path begins with 0
pub first_path : (ts : List (Tree ℕ)) (x : ℕ) → x < length (first_table ts) → (q : Path) × ((row (first_table ts) x).path ≡ 0 ∷ q)
unfolding children
first_path ts x h =
    let (y, a, b) = path_leads (take 1 ts) x 2147483648 h in
    go (row (first_table ts) x).path refl (path_long (take 1 ts) x h) y a
  where
    only : (ts : List (Tree ℕ)) (t : ℕ) → t < length (take 1 ts) → t ≡ 0
    only [] t l = absurd (omega arith)
    only (c ∷ cs) t l = omega arith

    go : (p : Path) → (row (first_table ts) x).path ≡ p → 0 < length p → (y : Tree ℕ) → resolve p (node 2147483648 (forest (take 1 ts))) ≡ some y → (q : Path) × ((row (first_table ts) x).path ≡ 0 ∷ q)
    go [] e l y a = absurd (omega arith)
    go (t ∷ q) e l y a =
        let (c, i, j) = bind_some (get_elem? (list (forest (take 1 ts))) t) (λ c. resolve q c) (sym (resolve_down t q (node 2147483648 (forest (take 1 ts)))) ∙ a) in
        let z : t ≡ 0 = only ts t (omega (arith, get_lt (list (forest (take 1 ts))) t i, ap length (list_forest (take 1 ts)))) in
        (q, e ∙ ap {B = Path} (λ (s : ℕ). s ∷ q) z)

-- an element with such a path is one of the first tree
pub within_first : (ts : List (Tree ℕ)) (x : ℕ) (q : Path) → x < length (table 0 0 ts) → (row (table 0 0 ts) x).path ≡ 0 ∷ q → x < length (first_table ts)
unfolding row_of
within_first ts x q l e =
    let os = take 1 ts in
    let (y, a, b) = path_leads ts x 2147483648 l in
    let there : resolve (0 ∷ q) (node 2147483648 (forest os)) ≡ some y = first_resolve ts 2147483648 2147483648 q ∙ (ap (λ (p : Path). resolve p (node 2147483648 (forest ts))) (sym e) ∙ a) in
    let (d, f, g) = map_some (λ (d : Element). d.tree) (element os (0 ∷ q)) (element_tree os 0 q 2147483648 ∙ there) in
    let h : d.number < length (first_table ts) = stands_within os d.number (element_stands os (0 ∷ q) d f) in
    let (i, z) = first_row ts d.number h in
    let path : (row (table 0 0 ts) d.number).path ≡ 0 ∷ q = ap (λ r. r.path) (sym z) ∙ (ap (λ r. r.path) (row_told_lem os (0 ∷ q) d f) ∙ element_path os (0 ∷ q) d f) in
    omega (arith, path_tells ts d.number x i l (path ∙ sym e))

-- parents and child numbers are those among all
pub first_parent : (ts : List (Tree ℕ)) (x : ℕ) → x < length (first_table ts) → parent (first_table ts) x ≡ parent (table 0 0 ts) x
unfolding parent
first_parent ts x h = rw ((first_row ts x h).1, parent)

pub first_child : (ts : List (Tree ℕ)) (x : ℕ) → x < length (first_table ts) → child (first_table ts) x ≡ child (table 0 0 ts) x
unfolding child
first_child ts x h = rw (first_row ts x h).1
