-- The rows of the elements of trees are the rows of the trees.
-- Assumes nothing.
use Rattle.std.specs.Prelude.{◌≡◌, refl, true, false, List, [], ◌∷◌, ◌++◌, ℕ, ◌+◌, ◌≤◌, drop}
use Rattle.std.proofs.Common.{sym, ◌∙◌, append_assoc, append-nil, add-zero, add_assoc, arith, take_at, drop_at, drop-drop}
use Rattle.std.proofs.Math.Path.{ap}
use borrow.Author.Tests.{lt-ltb, le-ltb, le-leb, leb-true, leb-false}
use Rattle.std.proofs.Math.ListN.{length, length-append, length-drop}
use Rattle.orders.specs.Tree.{Tree, Trees, node, token, nil, cons, list, preorders, text, text_of}
use Rattle.definition.specs.Elements.{is_node}
use Rattle.rows_model.specs.Row.{tok, nod, rows_of, rows_in, row_at, triples}
use Rattle.read_spelling.specs.Spelling.{length_of}
use Rattle.read_spelling.specs.Preorder.{flat, flats, flat_node, flat_token, flats_cons, Worded, WordedAll}
use Rattle.read_element_table.specs.Filling.{rows_from}

module _ (all : List ℕ) where
  -- one row
  row_token : (k o : ℕ) (own r : List ℕ) → is_node k ≡ false → o ≤ length all → drop o all ≡ own ++ r → row_at all k (length own) o ≡ tok k own
  unfolding is_node
  row_token k o own r n h d =
      let q = leb-false 2147483648 k n in
      let l : o + length own ≤ length all = omega (arith, length-drop o all, ap length d, length-append own r) in
      rw (lt-ltb k 2147483648 q, le-leb (o + length own) (length all) l, d) (ap (tok k) (take_at own r (length own) refl))

  row_node : (k m o : ℕ) → is_node k ≡ true → row_at all k m o ≡ nod k m
  unfolding is_node
  row_node k m o n = rw (le-ltb k 2147483648 (leb-true 2147483648 k n))

  mutual
    unfolding text rows_from length_of flats preorders

    -- the text of the tree starts at o
    rows_tree : (x : Tree ℕ) → Worded x → (o : ℕ) (r : List ℕ) (es : List (ℕ × ℕ)) → o ≤ length all → drop o all ≡ text x ++ r
        → triples all (rows_from o (flat x ++ es)) ≡ rows_of x ++ triples all (rows_from (o + length (text x)) es)
    rows_tree (token k own) w o r es h d = rw (flat_token k own, w, row_token k o own r w h d)
    rows_tree (node k cs) w o r es h d = rw (flat_node k cs, w.0, row_node k (length (list cs)) o w.0, add-zero o) (ap (λ z. nod k (length (list cs)) ∷ z) (rows_trees cs w.1 o r es h d))

    rows_trees : (cs : Trees ℕ) → WordedAll cs → (o : ℕ) (r : List ℕ) (es : List (ℕ × ℕ)) → o ≤ length all → drop o all ≡ text_of cs ++ r
        → triples all (rows_from o (flats cs ++ es)) ≡ rows_in cs ++ triples all (rows_from (o + length (text_of cs)) es)
    rows_trees nil w o r es h d = ap (λ z. triples all (rows_from z es)) (sym (add-zero o))
    rows_trees (cons x xs) w o r es h d =
        let n : ℕ = length (text x) in
        let d' : drop o all ≡ text x ++ (text_of xs ++ r) = d ∙ append_assoc (text x) (text_of xs) r in
        let after : drop (o + n) all ≡ text_of xs ++ r = rw (← drop-drop n o all, d') (drop_at (text x) (text_of xs ++ r) n refl) in
        let l : o + n ≤ length all = omega (arith, length-drop o all, ap length d', length-append (text x) (text_of xs ++ r)) in
        rw (flats_cons x xs, append_assoc (flat x) (flats xs) es, length-append (text x) (text_of xs), ← add_assoc o n (length (text_of xs)))
        (rows_tree x w.0 o (text_of xs ++ r) (flats xs ++ es) h d' ∙ (ap (λ z. rows_of x ++ z) (rows_trees xs w.1 (o + n) r es l after) ∙ sym (append_assoc (rows_of x) (rows_in xs) _)))

-- THE LAW: the rows that are told of the elements of trees with all their text
pub rows_told_lem : (cs : Trees ℕ) → WordedAll cs → triples (text_of cs) (rows_from 0 (flats cs)) ≡ rows_in cs
unfolding rows_from
rows_told_lem cs w =
    rw (← append-nil (flats cs)) (rows_trees (text_of cs) cs w 0 [] [] (omega arith) (sym (append-nil (text_of cs))) ∙ append-nil (rows_in cs))
