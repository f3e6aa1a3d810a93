-- The walk writes, for elements that spell one tree, the words of the rows of the definition's table.
-- Assumes nothing.
use Rattle.std.specs.Prelude.{◌≡◌, refl, ℕ, suc, ◌+◌, length}
use Rattle.std.proofs.Common.{sym, ap, ◌∙◌, add-zero, add-one, arith, length-append}
use mathlib.Core.List.{List, [], ◌∷◌, ◌++◌, head_d, append_assoc}
use Rattle.orders.specs.Tree.{Tree, Trees, node, token, nil, cons, list, forest, Path, preorders, elements, elements_of, text, text_of}
use Rattle.definition.specs.Elements.{rows, rows_below, table}
use Rattle.read_spelling.specs.Spelling.{children_of, length_of}
use Rattle.read_spelling.specs.Preorder.{flat, flats, flat_node, flat_token, flats_cons, Worded, WordedAll}
use Rattle.check_model.specs.Table.{up_of, own_end, told_all, told_append}
use Rattle.check_table.specs.Walk.{words_from, words_of}

-- ── A turn of the walk ──────────────────────────────────────────────────────────────────────────────────────

pub words_close : (left owners : List ℕ) (x i o : ℕ) (es : List (ℕ × ℕ)) → words_from (0 ∷ left) (x ∷ owners) i o es ≡ words_from left owners i o es
unfolding words_from
words_close left owners x i o [] = refl
words_close left owners x i o (e ∷ es) = refl

pub words_open : (l : ℕ) (left : List ℕ) (x : ℕ) (owners : List ℕ) (i o k m : ℕ) (es : List (ℕ × ℕ))
    → words_from (suc l ∷ left) (x ∷ owners) i o ((k, m) ∷ es)
    ≡ k ∷ o ∷ (o + length_of k m) ∷ x ∷ words_from (children_of k m ∷ l ∷ left) ((i + 1) ∷ x ∷ owners) (i + 1) (o + length_of k m) es
unfolding words_from head_d
words_open l left x owners i o k m es = refl

pub words_none : (left owners : List ℕ) (i o : ℕ) → words_from left owners i o [] ≡ []
unfolding words_from
words_none left owners i o = refl

-- ── The walk of a tree ──────────────────────────────────────────────────────────────────────────────────────

mutual
  unfolding rows elements text length_of children_of told_all own_end up_of list flats preorders

  -- element i, with the line `above` it
  walk_tree : (x : Tree ℕ) → Worded x → (l p : ℕ) (left owners : List ℕ) (i o : ℕ) (above : List ℕ) (path : Path) (r : List (ℕ × ℕ)) (i' o' : ℕ)
      → up_of above ≡ p → i' ≡ i + elements x → o' ≡ o + length (text x)
      → words_from (suc l ∷ left) (p ∷ owners) i o (flat x ++ r) ≡ told_all (rows x i above path o) ++ words_from (l ∷ left) (p ∷ owners) i' o' r
  walk_tree (token k own) n l p left owners i o above path r i' o' hp hi ho =
      let len : length_of k (length own) ≡ length own = rw n in
      let kids : children_of k (length own) ≡ 0 = rw n in
      rw (flat_token k own, words_open l left p owners i o k (length own) r, kids, len, words_close (l ∷ left) (p ∷ owners) (i + 1) (i + 1) (o + length own) r, n, hp, ← hi, ← ho)
  walk_tree (node k cs) n l p left owners i o above path r i' o' hp hi ho =
      let len : length_of k (length (list cs)) ≡ 0 = rw n.0 in
      let kids : children_of k (length (list cs)) ≡ length (list cs) = rw n.0 in
      rw (flat_node k cs, words_open l left p owners i o k (length (list cs)) (flats cs ++ r), kids, len, add-zero o, n.0, hp)
      (ap (λ (z : List ℕ). k ∷ o ∷ o ∷ p ∷ z)
      (walk_trees cs n.1 (length (list cs)) 0 (i + 1) (l ∷ left) (p ∷ owners) (i + 1) o (i ∷ above) path 0 r i' o' (sym (add-one i)) (omega arith) (omega arith) ho
      ∙ rw (add-one i) (ap (λ (z : List ℕ). told_all (rows_below cs (suc i) (i ∷ above) path 0 o) ++ z) (words_close (l ∷ left) (p ∷ owners) (suc i) i' o' r))))

  -- of the children of an open element
  walk_trees : (cs : Trees ℕ) → WordedAll cs → (m l p : ℕ) (left owners : List ℕ) (i o : ℕ) (above : List ℕ) (path : Path) (c : ℕ) (r : List (ℕ × ℕ)) (i' o' : ℕ)
      → up_of above ≡ p → m ≡ length (list cs) + l → i' ≡ i + elements_of cs → o' ≡ o + length (text_of cs)
      → words_from (m ∷ left) (p ∷ owners) i o (flats cs ++ r) ≡ told_all (rows_below cs i above path c o) ++ words_from (l ∷ left) (p ∷ owners) i' o' r
  walk_trees nil n m l p left owners i o above path c r i' o' hp hm hi ho =
      let em : m ≡ l = omega arith in
      let ei : i' ≡ i = omega arith in
      let eo : o' ≡ o = omega arith in
      rw (em, ei, eo)
  walk_trees (cons x xs) n m l p left owners i o above path c r i' o' hp hm hi ho =
      let q : ℕ = length (list xs) + l in
      let em : m ≡ suc q = omega arith in
      let i'' : ℕ = i + elements x in
      let o'' : ℕ = o + length (text x) in
      let lt = length-append (text x) (text_of xs) in
      let one : List ℕ = told_all (rows x i above (path ++ (c ∷ [])) o) in
      let more : List ℕ = told_all (rows_below xs i'' above path (suc c) o'') in
      rw (em, flats_cons x xs, append_assoc (flat x) (flats xs) r, told_append (rows x i above (path ++ (c ∷ [])) o) (rows_below xs i'' above path (suc c) o''), append_assoc one more (words_from (l ∷ left) (p ∷ owners) i' o' r))
      (walk_tree x n.0 q p left owners i o above (path ++ (c ∷ [])) (flats xs ++ r) i'' o'' hp refl refl
      ∙ ap (λ (z : List ℕ). one ++ z) (walk_trees xs n.1 q l p left owners i'' o'' above path (suc c) r i' o' hp refl (omega arith) (omega arith)))

-- THE LAW
pub walk_words : (x : Tree ℕ) → Worded x → words_of (flats (forest (x ∷ []))) ≡ told_all (table 0 0 (x ∷ []))
unfolding words_of forest table flats preorders up_of told_all
walk_words x n =
    rw (flats_cons x nil, told_append (rows x 0 [] (0 ∷ []) 0) [])
    (walk_tree x n 0 0 [] [] 0 0 [] (0 ∷ []) [] (elements x) (length (text x)) refl (omega arith) (omega arith) ∙ ap (λ (z : List ℕ). told_all (rows x 0 [] (0 ∷ []) 0) ++ z) (words_none (0 ∷ []) (0 ∷ []) (elements x) (length (text x))))
