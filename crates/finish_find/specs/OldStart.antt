-- Where the text of an old node starts: what resolving its path gives, in the rows of the batch's own trees.
-- Assumes nothing.
use Rattle.std.specs.Prelude.{◌≡◌, refl, Option, List, [], ◌∷◌, ◌⊎◌, ℕ, ◌+◌, ◌-◌, ◌*◌, ◌≤◌, ◌<◌, ltb, length, get_or, take, drop}
use Rattle.std.proofs.Common.{sym, ap, ◌∙◌, inl, inr, arith, take_at, le-leb, lt-ltb, le-ltb}
use Rattle.std.proofs.Math.Option.{some, bind}
use Rattle.std.proofs.Math.ListN.{get_elem?}
use Rattle.orders.specs.ListLaws.{some_inj, none_some, bool_absurd, lt_or_le}
use Rattle.orders.specs.Tree.{Tree, node, forest, elements, elements_of}
use Rattle.definition.specs.Elements.{Table, table, row, tree}
use Rattle.definition.specs.EdgeRule.{at_or_below}
use Rattle.definition_laws.specs.Rows.{element, root_of, element_at}
use Rattle.definition_laws.specs.Intervals.{after, after_element, interval}
use Rattle.read_element_table.specs.View.{view}
use Rattle.read_element_table.specs.Wellformed.{Wellformed}
use Rattle.read_element_table.specs.Told.{length_view}
use Rattle.read_element_table.specs.Afters.{after_within}
use Rattle.rows_model.specs.Row.{rows_of, rows_all, triples, first_rows}
use Rattle.rows_model.specs.Place.{place, between}
use Rattle.rows_model.proofs.RowLaws.{rows_node, size_elements}
use Rattle.rows_model.proofs.Words.{words_between}
use Rattle.rows_path.proofs.Offset.{table_start}
use Rattle.rows_path.specs.Promises.{Resolves, at_row}
use Rattle.rows_path.proofs.Promises.{resolves_there}
use Rattle.rows_path.specs.declared.Resolved.{Resolved}

-- the words t and s tell of the n elements of some trees: the definition's table, and the rows, under the node above them all
pub record TreesTold (n : ℕ) (t s : List ℕ) : Type 0 where
  pub trees : List (Tree ℕ)
  pub table : view n t s ≡ table 0 0 trees
  pub text : List ℕ
  pub rows : first_rows text (n + 1) s ≡ rows_of (node 2147483648 (forest trees))
  pub formed : Wellformed n t s

-- the child numbers of element k, below the root of its tree, are those from r on
pub record PathFrom (n : ℕ) (t : List ℕ) (k : ℕ) (path : List ℕ) (r : ℕ) : Type 0 where
  pub high : r ≤ 64
  pub long : length path ≡ 64
  pub numbers : (s : List ℕ) → (row (view n t s) k).path ≡ tree (view n t s) k ∷ drop r path

-- the words of tree 0's rows, behind that of the node above all: word 6 of its root is the element after it
abbrev pub tree_words : List ℕ → List ℕ → List ℕ
tree_words t s = take (3 * (get_or t 6 0 + 1) - 3) (drop 3 s)

-- the rows of the first of some trees
rows_first : (w : ℕ) (ts : List (Tree ℕ)) (c : Tree ℕ) → get_elem? ts 0 ≡ some c → between 1 (elements c + 1) (rows_of (node w (forest ts))) ≡ rows_of c
unfolding between
rows_first w [] c g = none_some g
rows_first w (d ∷ ts) c g =
    let e : elements c + 1 - 1 ≡ length (rows_of c) = omega (arith, size_elements c) in
    rw (rows_node w (d ∷ ts), some_inj g) (take_at (rows_of c) (rows_all ts) (elements c + 1 - 1) (sym e))

-- the element after the first of some trees
after_first : (ts : List (Tree ℕ)) (c : Tree ℕ) → get_elem? ts 0 ≡ some c → after ts 0 ≡ elements c
unfolding element root_of element_at bind forest elements_of
after_first [] c g = none_some g
after_first (d ∷ ts) c g = after_element (d ∷ ts) (0 ∷ []) (record { tree = d; number = 0; above = []; path = 0 ∷ []; start = 0 }) refl ∙ (omega arith ∙ ap elements (some_inj g))

-- numbers up to n below which the same numbers stand
same_end : (n a b : ℕ) → a ≤ n → b ≤ n → ((e : ℕ) → e < n → ltb e a ≡ ltb e b) → a ≡ b
same_end n a b ha hb f = go (lt_or_le a b) (lt_or_le b a)
  where
    go : (a < b) ⊎ (b ≤ a) → (b < a) ⊎ (a ≤ b) → a ≡ b
    go (inl x) y = bool_absurd (lt-ltb a b x) (sym (f a (omega arith)) ∙ le-ltb a a (omega arith))
    go (inr x) (inl y) = bool_absurd (lt-ltb b a y) (f b (omega arith) ∙ le-ltb b b (omega arith))
    go (inr x) (inr y) = omega arith

module _ {n : ℕ} {t s : List ℕ} (v : TreesTold n t s) where
  module _ (c : Tree ℕ) (g : get_elem? v.trees 0 ≡ some c) (h : 0 < n) where
    abbrev T : Table
    T = table 0 0 v.trees

    many : length T ≡ n
    many = ap length (sym v.table) ∙ length_view n t s

    first_end : get_or t 6 0 ≡ elements c
    first_end =
        same_end n (get_or t 6 0) (elements c) (v.formed.ends 0 h) (omega (arith, after_first v.trees c g, after_within v.trees 0 (omega (arith, many)), many))
        (λ e k.
        let told = sym (v.formed.interval 0 0 e h h k refl (omega arith)) ∙ ap (λ (F : Table). at_or_below F 0 0 e) v.table in
        let is = interval v.trees {x = 0} {y = 0} (record { first = omega (arith, many); last = omega (arith, many); parent = refl; order = omega arith }) e (omega (arith, many)) in
        rw (le-leb 0 e (omega arith), after_first v.trees c g) at (told ∙ is))

    -- so they tell its rows
    first_part : triples v.text (tree_words t s) ≡ rows_of c
    first_part =
        words_between v.text (n + 1) s 1 (get_or t 6 0 + 1) (omega arith) (omega (arith, v.formed.ends 0 h))
        ∙ (ap (λ (m : ℕ). between 1 (m + 1) (first_rows v.text (n + 1) s)) first_end ∙ (ap (between 1 (elements c + 1)) v.rows ∙ rows_first 2147483648 v.trees c g))

  -- THE LAW: resolving the path of an element of tree 0 gives the start that the definition's table has
  pub old_resolved : {k : ℕ} {path : List ℕ} {r : ℕ} {x : Option Resolved} → k < n → tree (view n t s) k ≡ 0 → PathFrom n t k path r → Resolves (tree_words t s) (drop r path) x
      → (i : ℕ) × (x ≡ at_row i (row (view n t s) k).start)
  old_resolved {k} {path} {r} h z f q =
      let T : Table = table 0 0 v.trees in
      let a : k < length T = omega (arith, ap length v.table, length_view n t s) in
      let e : (row T k).path ≡ 0 ∷ drop r path = rw (← v.table) (f.numbers s ∙ rw z) in
      let w = table_start v.trees k 0 (drop r path) a e in
      let b = resolves_there q v.text w.root w.found (first_part w.root w.there (omega arith)) w.leads in
      (place (drop r path) w.root, b ∙ ap (at_row (place (drop r path) w.root)) (sym w.start ∙ ap (λ (F : Table). (row F k).start) (sym v.table)))
