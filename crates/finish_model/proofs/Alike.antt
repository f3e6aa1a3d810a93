-- `find_element` on the rows of the new tree: the first node with a kind word and a text start.
-- Assumes nothing.
use Rattle.std.specs.Prelude.{◌≡◌, Bool, ◌&&◌, ℕ, suc, ◌+◌, length, take, eqb}
use Rattle.std.proofs.Math.Path.{refl}
use Rattle.std.proofs.Common.{sym, ap, ◌∙◌, add-zero, arith, length-append}
use Rattle.std.proofs.Math.Bool.{true, false, cond}
use mathlib.Core.List.{List, [], ◌∷◌, ◌++◌, head_d, append_assoc}
use Rattle.std.proofs.Math.Option.{Option, none, some, map}
use Rattle.orders.specs.Tree.{Tree, Trees, node, token, nil, cons, list, children, Path, elements, elements_of, text, text_of}
use Rattle.definition.specs.Basics.{first}
use Rattle.definition.specs.Elements.{Table, table, numbers, rows, rows_below, row, node?, tree, Row as Known}
use Rattle.definition.specs.Running.{World}
use Rattle.definition.specs.Finishing.{new_tree, new_table}
use Rattle.definition.specs.FindElement.{alike, find_in}
use Rattle.rows_model.specs.Row.{Row, rows_of, rows_in, rows_all}
use Rattle.finish_model.specs.Finished.{first_tree}
use Rattle.finish_model.proofs.Numbers.{first_tree_lem}
use Rattle.finish_model.specs.Alike.{alike_words, alike_from, find_row}

-- ── The definition's ────────────────────────────────────────────────────────────────────────────────────────

module _ (old : Known) where
  -- the number of the first row that is alike
  found_in : Table → Option ℕ
  found_in F = map (λ r. head_d r.line 0) (first (alike old) F)

  found_cons : (r : Known) (F : Table) (x : Option ℕ) → found_in F ≡ x → found_in (r ∷ F) ≡ cond (alike_words old.kind old.start r.kind r.start) (some (head_d r.line 0)) x
  unfolding found_in first alike alike_words
  found_cons r F x e = go (alike_words old.kind old.start r.kind r.start)
    where
      go : (b : Bool) → map (λ r. head_d r.line 0) (cond b (some r) (first (alike old) F)) ≡ cond b (some (head_d r.line 0)) x
      go true = refl
      go false = e

  mutual
    unfolding rows text elements alike_from head_d

    found_tree : (t : Tree ℕ) (n : ℕ) (above : List ℕ) (p : Path) (s m v : ℕ) (F : Table) (r : List Row) → m ≡ n + elements t → v ≡ s + length (text t) → found_in F ≡ alike_from old.kind old.start m v r
        → found_in (rows t n above p s ++ F) ≡ alike_from old.kind old.start n s (rows_of t ++ r)
    found_tree (token k x) n above p s m v F r a b e =
        let a' : m ≡ suc n = omega arith in
        found_cons (record { kind = k; line = n ∷ above; path = p; start = s; end = s + length x; children = [] }) F (alike_from old.kind old.start (suc n) (s + length x) r) (e ∙ rw (a', b))
    found_tree (node k cs) n above p s m v F r a b e =
        let a' : m ≡ suc n + elements_of cs = omega arith in
        found_cons (record { kind = k; line = n ∷ above; path = p; start = s; end = s + length (text_of cs); children = numbers (suc n) cs }) (rows_below cs (suc n) (n ∷ above) p 0 s ++ F) (alike_from old.kind old.start (suc n) (s + 0) (rows_in cs ++ r))
        (rw (add-zero s) (found_trees cs (suc n) (n ∷ above) p 0 s m v F r a' b e))

    found_trees : (cs : Trees ℕ) (n : ℕ) (above : List ℕ) (p : Path) (i s m v : ℕ) (F : Table) (r : List Row) → m ≡ n + elements_of cs → v ≡ s + length (text_of cs) → found_in F ≡ alike_from old.kind old.start m v r
        → found_in (rows_below cs n above p i s ++ F) ≡ alike_from old.kind old.start n s (rows_in cs ++ r)
    found_trees nil n above p i s m v F r a b e = let a' : m ≡ n = omega arith in let b' : v ≡ s = omega arith in e ∙ rw (a', b')
    found_trees (cons c cs) n above p i s m v F r a b e =
        let s' = s + length (text c) in
        let n' = n + elements c in
        let P : Table = rows c n above (p ++ (i ∷ [])) s in
        let Q : Table = rows_below cs n' above p (suc i) s' in
        let a' : m ≡ n' + elements_of cs = omega arith in
        let b' : v ≡ s' + length (text_of cs) = omega (arith, length-append (text c) (text_of cs)) in
        ap found_in (append_assoc P Q F)
        ∙ (found_tree c n above (p ++ (i ∷ [])) s n' s' (Q ++ F) (rows_in cs ++ r) refl refl (found_trees cs n' above p (suc i) s' m v F r a' b' e)
        ∙ ap (alike_from old.kind old.start n s) (sym (append_assoc (rows_of c) (rows_in cs) r)))

-- The first row of the new tree that is alike is told by its rows.
pub find_row_lem : (w : World) (old : Known) → map (λ r. head_d r.line 0) (first (alike old) (new_table w)) ≡ find_row (first_tree (rows_of w.trees)) old.kind old.start
unfolding new_table new_tree find_row found_in table first alike_from
find_row_lem w old = go (list (children w.trees)) ∙ ap (alike_from old.kind old.start 0 0) (sym (first_tree_lem w.trees))
  where
    go : (cs : List (Tree ℕ)) → found_in old (table 0 0 (take 1 cs)) ≡ alike_from old.kind old.start 0 0 (rows_all (take 1 cs))
    go [] = refl
    go (c ∷ cs) = found_tree old c 0 [] (0 ∷ []) 0 (0 + elements c) (0 + length (text c)) [] [] refl refl refl

-- `find_element` after a run, told by the rows.
pub find_in_lem : (T : Table) (w : World) (n : ℕ) → find_in T w n ≡ cond (node? T n && eqb (tree T n) 0) (find_row (first_tree (rows_of w.trees)) (row T n).kind (row T n).start) none
unfolding find_in
find_in_lem T w n = ap (λ o. cond (node? T n && eqb (tree T n) 0) o none) (find_row_lem w (row T n))
