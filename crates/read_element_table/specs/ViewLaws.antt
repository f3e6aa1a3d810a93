-- What the words of trees tell is what the definition's table says of the trees.
-- Assumes nothing.
use Rattle.std.specs.Prelude.{◌≡◌, cond, get_or}
use Rattle.std.proofs.Math.Path.{refl}
use Rattle.std.proofs.Common.{sym, ap, ◌∙◌, zero-add, add-zero, suc-add, add-suc, get_or-drop, drop-drop, drop_at}
use mathlib.Core.List.{List, [], ◌∷◌, ◌++◌, map, append_assoc}
use Prim.Native.Nat.{ℕ, zero, suc, ◌+◌, ◌*◌}
use Rattle.std.proofs.Math.Numerals.{add-one}
use native.Mathlib.Omega.{arith}
use Rattle.std.proofs.Math.ListN.{length, drop}
use Rattle.orders.specs.ListLaws.{map_append}
use Rattle.orders.specs.Tree.{Tree, Trees, node, token, nil, cons, list, forest, Path, elements, elements_of, text, text_of}
use Rattle.definition.specs.Elements.{is_node, numbers, rows, rows_below, table}
use Rattle.definition_laws.specs.Basics.{up_from}
use Rattle.read_element_table.specs.View.{field, line_from, path_to, kind_word, measure_word, siblings, row_at}
use Rattle.read_spelling.specs.Spelling.{length_of}
use Rattle.read_element_table.specs.Filling.{rows_from, source_of}
use Rattle.read_spelling.specs.Preorder.{flat, flats, flat_node, flat_token, flats_cons, length_flat, Worded, WordedAll}
use Rattle.read_element_table.specs.FillingLaws.{words_of, words_below, words_all, length_words}

-- ── Single words ────────────────────────────────────────────────────────────────────────────────────────────

-- word k of an element whose words stand at the front of l
pub field_at : (ws rs l : List ℕ) (k e : ℕ) → drop (8 * e) ws ≡ l → field ws rs k e ≡ get_or l k 0
unfolding field
field_at ws rs l k e h = sym (get_or-drop (8 * e) ws k 0) ∙ ap (λ z. get_or z k 0) h

-- kind word and measure of element e
rows_at : (es : List (ℕ × ℕ)) (e k m : ℕ) (r : List (ℕ × ℕ)) (o : ℕ) (z : List ℕ) → drop e es ≡ (k, m) ∷ r → (get_or (rows_from o es ++ z) (3 * e) 0 ≡ k) × (get_or (rows_from o es ++ z) (3 * e + 1) 0 ≡ m)
unfolding rows_from
rows_at [] zero k m r o z h = absurd (let y : ◌≡◌ {A = ℕ} 0 1 = cc in omega arith)
rows_at [] (suc e) k m r o z h = absurd (let y : ◌≡◌ {A = ℕ} 0 1 = cc in omega arith)
rows_at (x ∷ es) zero k m r o z h = let q : x ≡ (k, m) = cc in (ap (λ y. y.0) q, ap (λ y. y.1) q)
rows_at (x ∷ es) (suc e) k m r o z h =
    let a : 3 * suc e ≡ suc (suc (suc (3 * e))) = omega arith in
    let b : 3 * suc e + 1 ≡ suc (suc (suc (3 * e + 1))) = omega arith in
    rw (b, a) (rows_at es e k m r (o + length_of x.0 x.1) z h)

module _ (ws : List ℕ) (trees : ℕ) (es : List (ℕ × ℕ)) (z : List ℕ) (e k m : ℕ) (r : List (ℕ × ℕ)) (h : drop e es ≡ (k, m) ∷ r) where
  pub kind_at : kind_word ws (source_of trees es ++ z) e ≡ k
  unfolding kind_word source_of
  kind_at = let a : 3 * suc e ≡ suc (suc (suc (3 * e))) = omega arith in rw a (rows_at es e k m r 0 z h).0

  pub measure_at : measure_word ws (source_of trees es ++ z) e ≡ m
  unfolding measure_word source_of
  measure_at = let a : 3 * suc e + 1 ≡ suc (suc (suc (3 * e + 1))) = omega arith in rw a (rows_at es e k m r 0 z h).1

-- ── A tree's words among others ─────────────────────────────────────────────────────────────────────────────

-- the words after a tree, and the elements after it
pub next_words : (ws : List ℕ) (x : Tree ℕ) (e o p c d s t : ℕ) (r : List ℕ) → drop (8 * e) ws ≡ words_of x e o p c d s t ++ r → drop (8 * (e + elements x)) ws ≡ r
next_words ws x e o p c d s t r h =
    let a : 8 * (e + elements x) ≡ 8 * e + 8 * elements x = omega arith in
    rw (a, ← drop-drop (8 * elements x) (8 * e) ws, h) (drop_at (words_of x e o p c d s t) r (8 * elements x) (length_words x e o p c d s t))

pub next_elements : (es : List (ℕ × ℕ)) (x : Tree ℕ) (e : ℕ) (r : List (ℕ × ℕ)) → drop e es ≡ flat x ++ r → drop (e + elements x) es ≡ r
next_elements es x e r h = rw (← drop-drop (elements x) e es, h) (drop_at (flat x) r (elements x) (length_flat x))

-- and after one element
pub after_one : {A : Type 0} (l : List A) (e : ℕ) (a : A) (r : List A) → drop e l ≡ a ∷ r → drop (suc e) l ≡ r
after_one l e a r h = rw (← add-one e, ← drop-drop 1 e l, h)

pub after_eight : (ws : List ℕ) (e o p c d s x a t : ℕ) (r : List ℕ) → drop (8 * e) ws ≡ o ∷ p ∷ c ∷ d ∷ s ∷ x ∷ a ∷ t ∷ r → drop (8 * suc e) ws ≡ r
after_eight ws e o p c d s x a t r h = let q : 8 * suc e ≡ 8 * e + 8 = omega arith in rw (q, ← drop-drop 8 (8 * e) ws, h)

module _ (ws rs : List ℕ) where
  -- the element after a subtree
  pub after_word : (x : Tree ℕ) (e o p c d s t : ℕ) (r : List ℕ) → drop (8 * e) ws ≡ words_of x e o p c d s t ++ r → field ws rs 6 e ≡ e + elements x
  unfolding words_of elements
  after_word (node k cs) e o p c d s t r h = field_at ws rs _ 6 e h
  after_word (token k own) e o p c d s t r h = field_at ws rs _ 6 e h

  -- children by hopping
  pub siblings_numbers : (cs : Trees ℕ) (e o p c d s t : ℕ) (r : List ℕ) → drop (8 * e) ws ≡ words_below cs e o p c d s t ++ r → siblings ws rs (length (list cs)) e ≡ numbers e cs
  unfolding siblings list numbers words_below
  siblings_numbers nil e o p c d s t r h = refl
  siblings_numbers (cons x xs) e o p c d s t r h =
      let h' : drop (8 * e) ws ≡ words_of x e o p c d s t ++ (words_below xs (e + elements x) (o + length (text x)) p (c + 1) d (s + length (text x)) t ++ r) = h ∙ append_assoc (words_of x e o p c d s t) _ r in
      rw (after_word x e o p c d s t _ h') (ap (λ l. e ∷ l) (siblings_numbers xs (e + elements x) (o + length (text x)) p (c + 1) d (s + length (text x)) t r (next_words ws x e o p c d s t _ h')))

-- ── What is told of a tree ──────────────────────────────────────────────────────────────────────────────────

-- by a parent word: the ancestors of an element, and the child numbers down to its parent
unfoldable pub line_above : List ℕ → List ℕ → ℕ → ℕ → List ℕ
line_above ws rs p d = elim p [ zero ↦ [] | suc q ↦ line_from ws rs d q ]

unfoldable pub path_above : List ℕ → List ℕ → ℕ → ℕ → Path
path_above ws rs p d = elim p [ zero ↦ [] | suc q ↦ path_to ws rs d q ]

pub line_from_lem : (ws rs : List ℕ) (e d : ℕ) → line_from ws rs (suc d) e ≡ e ∷ line_above ws rs (field ws rs 1 e) d
unfolding line_from line_above
line_from_lem ws rs e d = refl

pub path_to_lem : (ws rs : List ℕ) (e d : ℕ) → path_to ws rs (suc d) e ≡ path_above ws rs (field ws rs 1 e) d ++ (field ws rs 2 e ∷ [])
unfolding path_to path_above
path_to_lem ws rs e d = refl

up_from_add : (e a b : ℕ) → up_from e (a + b) ≡ up_from e a ++ up_from (e + a) b
unfolding up_from
up_from_add e zero b = rw (zero-add b, add-zero e)
up_from_add e (suc a) b = rw (suc-add a b, add-suc e a, ← suc-add e a) (ap (λ l. e ∷ l) (up_from_add (suc e) a b))

-- the line of an element, and the path to it
module _ (ws rs : List ℕ) (e o p c d d₀ s f a t : ℕ) (r : List ℕ) (h : drop (8 * e) ws ≡ o ∷ p ∷ c ∷ d ∷ s ∷ f ∷ a ∷ t ∷ r) (hd : d ≡ suc d₀) where
  words : List ℕ
  words = o ∷ p ∷ c ∷ d ∷ s ∷ f ∷ a ∷ t ∷ r

  told_line : (above : List ℕ) → line_above ws rs p d₀ ≡ above → line_from ws rs d e ≡ e ∷ above
  unfolding words
  told_line above hl = rw (hd, line_from_lem ws rs e d₀, field_at ws rs words 1 e h, hl)

  told_path : (path : Path) → path_above ws rs p d₀ ++ (c ∷ []) ≡ path → path_to ws rs d e ≡ path
  unfolding words
  told_path path hp = rw (hd, path_to_lem ws rs e d₀, field_at ws rs words 1 e h, field_at ws rs words 2 e h) hp

module _ (ws : List ℕ) (trees : ℕ) (es : List (ℕ × ℕ)) (z : List ℕ) where
  -- one element
  told_one : (e k m o p c d d₀ s f a t : ℕ) (r : List ℕ) (r' : List (ℕ × ℕ)) (above : List ℕ) (path : Path) (children : List ℕ)
      → drop (8 * e) ws ≡ o ∷ p ∷ c ∷ d ∷ s ∷ f ∷ a ∷ t ∷ r → drop e es ≡ (k, m) ∷ r' → d ≡ suc d₀
      → line_above ws (source_of trees es ++ z) p d₀ ≡ above → path_above ws (source_of trees es ++ z) p d₀ ++ (c ∷ []) ≡ path → siblings ws (source_of trees es ++ z) (cond (is_node k) m 0) (suc e) ≡ children
      → row_at ws (source_of trees es ++ z) e ≡ record { kind = k; line = e ∷ above; path = path; start = s; end = f; children = children }
  unfolding row_at
  told_one e k m o p c d d₀ s f a t r r' above path children h g hd hl hp hc =
      let rs : List ℕ = source_of trees es ++ z in
      let l : List ℕ = o ∷ p ∷ c ∷ d ∷ s ∷ f ∷ a ∷ t ∷ r in
      rw (field_at ws rs l 3 e h, told_line ws rs e o p c d d₀ s f a t r h hd above hl, told_path ws rs e o p c d d₀ s f a t r h hd path hp, kind_at ws trees es z e k m r' g, measure_at ws trees es z e k m r' g, field_at ws rs l 4 e h, field_at ws rs l 5 e h, hc)

  mutual
    unfolding elements words_of flats up_from rows list line_above path_above siblings

    told_tree : (x : Tree ℕ) → Worded x → (e o p c d d₀ s t : ℕ) (r : List ℕ) (r' : List (ℕ × ℕ)) (above : List ℕ) (path : Path)
        → drop (8 * e) ws ≡ words_of x e o p c d s t ++ r → drop e es ≡ flat x ++ r' → d ≡ suc d₀
        → line_above ws (source_of trees es ++ z) p d₀ ≡ above → path_above ws (source_of trees es ++ z) p d₀ ++ (c ∷ []) ≡ path
        → map (row_at ws (source_of trees es ++ z)) (up_from e (elements x)) ≡ rows x e above path s
    told_tree (token k own) n e o p c d d₀ s t r r' above path h g hd hl hp =
        ap (λ y. y ∷ []) (told_one e k (length own) o p c d d₀ s (s + length own) (e + 1) t r r' above path [] h (rw (flat_token k own) at g) hd hl hp (rw n))
    told_tree (node k cs) n e o p c d d₀ s t r r' above path h g hd hl hp =
        let rs : List ℕ = source_of trees es ++ z in
        let f : ℕ = s + length (text_of cs) in
        let a : ℕ = e + suc (elements_of cs) in
        let m : ℕ = length (list cs) in
        let l : List ℕ = words_below cs (e + 1) o (e + 1) 0 (d + 1) s t ++ r in
        let below : drop (8 * suc e) ws ≡ words_below cs (suc e) o (suc e) 0 (d + 1) s t ++ r = after_eight ws e o p c d s f a t l h ∙ rw (add-one e) in
        let g' : drop e es ≡ (k, m) ∷ (flats cs ++ r') = rw (flat_node k cs) at g in
        let kids : siblings ws rs (cond (is_node k) m 0) (suc e) ≡ numbers (suc e) cs = rw n.0 (siblings_numbers ws rs cs (suc e) o (suc e) 0 (d + 1) s t r below) in
        rw (told_one e k m o p c d d₀ s f a t l (flats cs ++ r') above path (numbers (suc e) cs) h g' hd hl hp kids)
        (ap (λ y. record { kind = k; line = e ∷ above; path = path; start = s; end = f; children = numbers (suc e) cs } ∷ y)
        (told_trees cs n.1 (suc e) o (suc e) 0 (d + 1) d s t r r' (e ∷ above) path below (after_one es e (k, m) (flats cs ++ r') g') (add-one d) (told_line ws rs e o p c d d₀ s f a t l h hd above hl) (told_path ws rs e o p c d d₀ s f a t l h hd path hp)))

    told_trees : (cs : Trees ℕ) → WordedAll cs → (e o p c d d₀ s t : ℕ) (r : List ℕ) (r' : List (ℕ × ℕ)) (above : List ℕ) (path : Path)
        → drop (8 * e) ws ≡ words_below cs e o p c d s t ++ r → drop e es ≡ flats cs ++ r' → d ≡ suc d₀
        → line_above ws (source_of trees es ++ z) p d₀ ≡ above → path_above ws (source_of trees es ++ z) p d₀ ≡ path
        → map (row_at ws (source_of trees es ++ z)) (up_from e (elements_of cs)) ≡ rows_below cs e above path c s
    told_trees nil n e o p c d d₀ s t r r' above path h g hd hl hp = refl
    told_trees (cons x xs) n e o p c d d₀ s t r r' above path h g hd hl hp =
        let rs : List ℕ = source_of trees es ++ z in
        let e' : ℕ = e + elements x in
        let o' : ℕ = o + length (text x) in
        let s' : ℕ = s + length (text x) in
        let l : List ℕ = words_below xs e' o' p (c + 1) d s' t ++ r in
        let h' : drop (8 * e) ws ≡ words_of x e o p c d s t ++ l = h ∙ append_assoc (words_of x e o p c d s t) (words_below xs e' o' p (c + 1) d s' t) r in
        let g' : drop e es ≡ flat x ++ (flats xs ++ r') = rw (flats_cons x xs, append_assoc (flat x) (flats xs) r') at g in
        let one = told_tree x n.0 e o p c d d₀ s t l (flats xs ++ r') above (path ++ (c ∷ [])) h' g' hd hl (ap (λ y. y ++ (c ∷ [])) hp) in
        let more = told_trees xs n.1 e' o' p (c + 1) d d₀ s' t r r' above path (next_words ws x e o p c d s t l h') (next_elements es x e (flats xs ++ r') g') hd hl hp in
        rw (up_from_add e (elements x) (elements_of xs), map_append (row_at ws rs) (up_from e (elements x)) (up_from e' (elements_of xs)), one, more, add-one c)

  -- of all trees
  pub told_all : (ts : List (Tree ℕ)) → WordedAll (forest ts) → (e o t : ℕ) (r : List ℕ) (r' : List (ℕ × ℕ)) → drop (8 * e) ws ≡ words_all ts e o t ++ r → drop e es ≡ flats (forest ts) ++ r'
      → map (row_at ws (source_of trees es ++ z)) (up_from e (elements_of (forest ts))) ≡ table e t ts
  unfolding forest elements_of words_all up_from table line_above path_above
  told_all [] n e o t r r' h g = refl
  told_all (x ∷ xs) n e o t r r' h g =
      let rs : List ℕ = source_of trees es ++ z in
      let e' : ℕ = e + elements x in
      let o' : ℕ = o + length (text x) in
      let l : List ℕ = words_all xs e' o' (t + 1) ++ r in
      let h' : drop (8 * e) ws ≡ words_of x e o 0 t 1 0 t ++ l = h ∙ append_assoc (words_of x e o 0 t 1 0 t) (words_all xs e' o' (t + 1)) r in
      let g' : drop e es ≡ flat x ++ (flats (forest xs) ++ r') = rw (flats_cons x (forest xs), append_assoc (flat x) (flats (forest xs)) r') at g in
      let one = told_tree x n.0 e o 0 t 1 0 0 t l (flats (forest xs) ++ r') [] (t ∷ []) h' g' refl refl refl in
      let more = told_all xs n.1 e' o' (t + 1) r r' (next_words ws x e o 0 t 1 0 t l h') (next_elements es x e (flats (forest xs) ++ r') g') in
      rw (up_from_add e (elements x) (elements_of (forest xs)), map_append (row_at ws rs) (up_from e (elements x)) (up_from e' (elements_of (forest xs))), one, more, add-one t)
