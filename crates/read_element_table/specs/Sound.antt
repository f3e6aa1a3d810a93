-- The words of trees are well formed.
-- Assumes nothing.
use Rattle.std.specs.Prelude.{◌≡◌, refl, false, cond}
use Rattle.std.proofs.Common.{◌∙◌, add-one, arith}
use mathlib.Core.List.{List, [], ◌∷◌, ◌++◌, append_assoc}
use Rattle.std.proofs.Math.Logic.{inl, inr}
use Prim.Native.Nat.{ℕ, zero, suc, ◌+◌, ◌*◌, ◌≤◌, ◌<◌}
use borrow.Author.Tests.{ltb-false}
use Rattle.std.proofs.Math.Dec.{ltb}
use Rattle.std.proofs.Math.ListN.{length, drop}
use Rattle.orders.specs.Lists.{All}
use Rattle.orders.specs.ListLaws.{lt_or_le, either_false}
use Rattle.orders.specs.Tree.{Tree, Trees, node, token, nil, cons, list, forest, elements, elements_of, text, text_of, deepest, deepest_of}
use Rattle.definition.specs.Basics.{any}
use Rattle.definition.specs.Elements.{is_node, numbers}
use Rattle.read_spelling.specs.Preorder.{flat, flats, flat_node, flat_token, flats_cons, Worded, WordedAll}
use Rattle.read_element_table.specs.View.{field, siblings, row_at}
use Rattle.read_element_table.specs.Filling.{source_of}
use Rattle.read_element_table.specs.FillingLaws.{words_of, words_below, words_all}
use Rattle.read_element_table.specs.ViewLaws.{field_at, kind_at, measure_at, next_words, next_elements, after_one, after_eight, after_word, siblings_numbers}

module _ (ws rs : List ℕ) where
  -- c elements on from e, each time to the element after the subtree
  unfoldable pub hop : ℕ → ℕ → ℕ
  hop zero e = e
  hop (suc c) e = field ws rs 6 (hop c e)

  -- what the words of element e, of n, have to do with those of its parent
  pub record Sound (n e : ℕ) : Type 0 where
    pub before : field ws rs 1 e ≤ e
    pub root : field ws rs 1 e ≡ 0 → (field ws rs 3 e ≡ 1) × (field ws rs 7 e ≡ field ws rs 2 e)
    pub below : (p : ℕ) → field ws rs 1 e ≡ suc p → (field ws rs 3 e ≡ suc (field ws rs 3 p)) × (field ws rs 7 e ≡ field ws rs 7 p)
    pub shallow : field ws rs 3 e ≤ 64
    -- it is found by hopping over the children before it
    pub place : hop (field ws rs 2 e) (field ws rs 1 e) ≡ e
    pub children : All (λ c. c < n) (row_at ws rs e).children

  -- an element e of depth d in tree t may come as child c of the element before p
  record Here (e p c d t : ℕ) : Type 0 where
    before : p ≤ e
    root : p ≡ 0 → (d ≡ 1) × (t ≡ c)
    below : (q : ℕ) → p ≡ suc q → (d ≡ suc (field ws rs 3 q)) × (t ≡ field ws rs 7 q)
    place : hop c p ≡ e

  -- the next child
  here_next : (e e' p c d t : ℕ) → Here e p c d t → 0 < p → e ≤ e' → field ws rs 6 e ≡ e' → Here e' p (c + 1) d t
  unfolding hop
  here_next e e' p c d t h z l f = record { before = omega (arith, h.before); root = λ q. absurd (omega arith); below = h.below; place = rw (add-one c, h.place) f }

-- numbers of trees that stand one after another
elements_some : (x : Tree ℕ) → 0 < elements x
unfolding elements
elements_some (node k cs) = omega arith
elements_some (token k own) = omega arith

numbers_below : (n e : ℕ) (cs : Trees ℕ) → e + elements_of cs ≤ n → All (λ c. c < n) (numbers e cs)
unfolding numbers elements_of
numbers_below n e nil h = tt
numbers_below n e (cons x xs) h = (omega (arith, elements_some x), numbers_below n (e + elements x) xs (omega arith))

module _ (ws : List ℕ) (trees : ℕ) (es : List (ℕ × ℕ)) (z : List ℕ) (n : ℕ) where
  -- one element
  sound_one : (e k m o p c d s f a t : ℕ) (r : List ℕ) (r' : List (ℕ × ℕ)) → drop (8 * e) ws ≡ o ∷ p ∷ c ∷ d ∷ s ∷ f ∷ a ∷ t ∷ r → drop e es ≡ (k, m) ∷ r'
      → Here ws (source_of trees es ++ z) e p c d t → d ≤ 64 → All (λ y. y < n) (siblings ws (source_of trees es ++ z) (cond (is_node k) m 0) (suc e)) → Sound ws (source_of trees es ++ z) n e
  unfolding row_at
  sound_one e k m o p c d s f a t r r' h g here low kids =
      let rs : List ℕ = source_of trees es ++ z in
      let l : List ℕ = o ∷ p ∷ c ∷ d ∷ s ∷ f ∷ a ∷ t ∷ r in
      let w₁ = field_at ws rs l 1 e h in
      let w₂ = field_at ws rs l 2 e h in
      let w₃ = field_at ws rs l 3 e h in
      let w₇ = field_at ws rs l 7 e h in
      record {
        before = rw w₁ here.before;
        root = rw (w₁, w₂, w₃, w₇) here.root;
        below = rw (w₁, w₃, w₇) here.below;
        shallow = rw w₃ low;
        place = rw (w₁, w₂) here.place;
        children = rw (kind_at ws trees es z e k m r' g, measure_at ws trees es z e k m r' g) kids;
      }

  mutual
    unfolding elements words_of flats list siblings deepest hop

    sound_tree : (x : Tree ℕ) → Worded x → (e o p c d s t : ℕ) (r : List ℕ) (r' : List (ℕ × ℕ)) → drop (8 * e) ws ≡ words_of x e o p c d s t ++ r → drop e es ≡ flat x ++ r'
        → Here ws (source_of trees es ++ z) e p c d t → d + deepest x ≤ 65 → e + elements x ≤ n → (i : ℕ) → e ≤ i → i < e + elements x → Sound ws (source_of trees es ++ z) n i
    sound_tree (token k own) w e o p c d s t r r' h g here low fits i h₁ h₂ =
        let q : i ≡ e = omega arith in
        rw q (sound_one e k (length own) o p c d s (s + length own) (e + 1) t r r' h (rw (flat_token k own) at g) here (omega arith) (rw w tt))
    sound_tree (node k cs) w e o p c d s t r r' h g here low fits i h₁ h₂ =
        let rs : List ℕ = source_of trees es ++ z in
        let f : ℕ = s + length (text_of cs) in
        let a : ℕ = e + suc (elements_of cs) in
        let m : ℕ = length (list cs) in
        let l : List ℕ = words_below cs (e + 1) o (e + 1) 0 (d + 1) s t ++ r in
        let under : drop (8 * suc e) ws ≡ words_below cs (suc e) o (suc e) 0 (d + 1) s t ++ r = after_eight ws e o p c d s f a t l h ∙ rw (add-one e) in
        let g' : drop e es ≡ (k, m) ∷ (flats cs ++ r') = rw (flat_node k cs) at g in
        let first : Here ws rs (suc e) (suc e) 0 (d + 1) t =
        record {
          before = omega arith;
          root = λ q. absurd (omega arith);
          below = λ q y. let u : q ≡ e = omega arith in rw (u, field_at ws rs _ 3 e h, field_at ws rs _ 7 e h) (add-one d, refl);
          place = refl;
        } in
        elim (lt_or_le e i) [
          | inl y ↦ sound_trees cs w.1 (suc e) o (suc e) 0 (d + 1) s t r r' under (after_one es e (k, m) (flats cs ++ r') g') first (omega arith) (omega arith) (omega arith) i (omega arith) (omega arith)
          | inr y ↦ let q : i ≡ e = omega arith in rw q (sound_one e k m o p c d s f a t l (flats cs ++ r') h g' here (omega arith) (rw (w.0, siblings_numbers ws rs cs (suc e) o (suc e) 0 (d + 1) s t r under) (numbers_below n (suc e) cs (omega arith))))
        ]

    sound_trees : (cs : Trees ℕ) → WordedAll cs → (e o p c d s t : ℕ) (r : List ℕ) (r' : List (ℕ × ℕ)) → drop (8 * e) ws ≡ words_below cs e o p c d s t ++ r → drop e es ≡ flats cs ++ r'
        → Here ws (source_of trees es ++ z) e p c d t → 0 < p → d + deepest_of cs ≤ 65 → e + elements_of cs ≤ n → (i : ℕ) → e ≤ i → i < e + elements_of cs → Sound ws (source_of trees es ++ z) n i
    sound_trees nil w e o p c d s t r r' h g here z₀ low fits i h₁ h₂ = absurd (omega arith)
    sound_trees (cons x xs) w e o p c d s t r r' h g here z₀ low fits i h₁ h₂ =
        let rs : List ℕ = source_of trees es ++ z in
        let e' : ℕ = e + elements x in
        let o' : ℕ = o + length (text x) in
        let s' : ℕ = s + length (text x) in
        let l : List ℕ = words_below xs e' o' p (c + 1) d s' t ++ r in
        let h' : drop (8 * e) ws ≡ words_of x e o p c d s t ++ l = h ∙ append_assoc (words_of x e o p c d s t) (words_below xs e' o' p (c + 1) d s' t) r in
        let g' : drop e es ≡ flat x ++ (flats xs ++ r') = rw (flats_cons x xs, append_assoc (flat x) (flats xs) r') at g in
        let here' : Here ws rs e' p (c + 1) d t = here_next ws rs e e' p c d t here z₀ (omega arith) (after_word ws rs x e o p c d s t l h') in
        elim (lt_or_le i e') [
          | inl y ↦ sound_tree x w.0 e o p c d s t l (flats xs ++ r') h' g' here (omega arith) (omega arith) i h₁ y
          | inr y ↦ sound_trees xs w.1 e' o' p (c + 1) d s' t r r' (next_words ws x e o p c d s t l h') (next_elements es x e (flats xs ++ r') g') here' z₀ (omega arith) (omega arith) i y (omega arith)
        ]

  -- all elements
  pub sound_all : (ts : List (Tree ℕ)) → WordedAll (forest ts) → any (λ x. ltb 64 (deepest x)) ts ≡ false → (e o t : ℕ) (r : List ℕ) (r' : List (ℕ × ℕ)) → drop (8 * e) ws ≡ words_all ts e o t ++ r → drop e es ≡ flats (forest ts) ++ r'
      → hop ws (source_of trees es ++ z) t 0 ≡ e → e + elements_of (forest ts) ≤ n → (i : ℕ) → e ≤ i → i < e + elements_of (forest ts) → Sound ws (source_of trees es ++ z) n i
  unfolding forest elements_of words_all any hop
  sound_all [] w low e o t r r' h g at fits i h₁ h₂ = absurd (omega arith)
  sound_all (x ∷ xs) w low e o t r r' h g at fits i h₁ h₂ =
      let rs : List ℕ = source_of trees es ++ z in
      let e' : ℕ = e + elements x in
      let o' : ℕ = o + length (text x) in
      let l : List ℕ = words_all xs e' o' (t + 1) ++ r in
      let h' : drop (8 * e) ws ≡ words_of x e o 0 t 1 0 t ++ l = h ∙ append_assoc (words_of x e o 0 t 1 0 t) (words_all xs e' o' (t + 1)) r in
      let g' : drop e es ≡ flat x ++ (flats (forest xs) ++ r') = rw (flats_cons x (forest xs), append_assoc (flat x) (flats (forest xs)) r') at g in
      let shallow = either_false (ltb 64 (deepest x)) (any (λ x. ltb 64 (deepest x)) xs) low in
      let here : Here ws rs e 0 t 1 t = record { before = omega arith; root = λ q. (refl, refl); below = λ q y. absurd (omega arith); place = at } in
      let after : hop ws rs (t + 1) 0 ≡ e' = rw (add-one t, at) (after_word ws rs x e o 0 t 1 0 t l h') in
      elim (lt_or_le i e') [
        | inl y ↦ sound_tree x w.0 e o 0 t 1 0 t l (flats (forest xs) ++ r') h' g' here (omega (arith, ltb-false 64 (deepest x) shallow.0)) (omega arith) i h₁ y
        | inr y ↦ sound_all xs w.1 shallow.1 e' o' (t + 1) r r' (next_words ws x e o 0 t 1 0 t l h') (next_elements es x e (flats (forest xs) ++ r') g') after (omega arith) i y (omega arith)
      ]
