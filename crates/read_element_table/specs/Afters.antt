-- Word 6 of an element is the element after its subtree, as the trees have it.
-- Assumes nothing.
use Rattle.std.specs.Prelude.{◌≡◌, take}
use Rattle.std.proofs.Math.Path.{sym, ap}
use Rattle.std.proofs.Common.{◌∙◌, add-one}
use mathlib.Core.List.{List, [], ◌∷◌, ◌++◌, append_assoc}
use Rattle.std.proofs.Math.Option.{some}
use Prim.Native.Nat.{ℕ, zero, suc, ◌+◌, ◌*◌, ◌≤◌, ◌<◌}
use native.Mathlib.Omega.{arith}
use Rattle.std.proofs.Math.ListN.{length, drop, get_elem?}
use Rattle.orders.specs.ListLaws.{some_inj, none_some, map_some, bind_some}
use Rattle.orders.specs.Tree.{Tree, Trees, node, token, nil, cons, list, forest, Path, elements, elements_of, text, children}
use Rattle.definition.specs.Elements.{table}
use Rattle.definition_laws.specs.Rows.{Element, before, child_of, element_at, root_of, element, reach_tree}
use Rattle.definition_laws.specs.Kin.{child_is, element_below, Stands, element_stands, stands, stands_within}
use Rattle.definition_laws.specs.Intervals.{after, after_stands}
use Rattle.read_element_table.specs.View.{field}
use Rattle.read_element_table.specs.FillingLaws.{words_of, words_below, words_all}
use Rattle.read_element_table.specs.ViewLaws.{next_words, after_eight, after_word}

-- the words of the tree x stand at element e, whatever else they tell
record WordsAt (ws : List ℕ) (x : Tree ℕ) (e : ℕ) : Type 0 where
  o : ℕ
  p : ℕ
  c : ℕ
  d : ℕ
  s : ℕ
  t : ℕ
  rest : List ℕ
  at : drop (8 * e) ws ≡ words_of x e o p c d s t ++ rest

module _ (ws : List ℕ) where
  -- those of each child stand among its parent's
  below_words : (cs : Trees ℕ) (i : ℕ) (x : Tree ℕ) (e o p c d s t : ℕ) (r : List ℕ) (n : ℕ) → drop (8 * e) ws ≡ words_below cs e o p c d s t ++ r → get_elem? (list cs) i ≡ some x
      → n ≡ e + elements_of (forest (take i (list cs))) → WordsAt ws x n
  unfolding words_below list forest elements
  below_words nil i x e o p c d s t r n h g q = none_some g
  below_words (cons y ys) zero x e o p c d s t r n h g q =
      let z : n ≡ e = omega arith in
      let l : List ℕ = words_below ys (e + elements y) (o + length (text y)) p (c + 1) d (s + length (text y)) t in
      rw (z, ← some_inj g) (record { o = o; p = p; c = c; d = d; s = s; t = t; rest = l ++ r; at = h ∙ append_assoc (words_of y e o p c d s t) l r })
  below_words (cons y ys) (suc i) x e o p c d s t r n h g q =
      let l : List ℕ = words_below ys (e + elements y) (o + length (text y)) p (c + 1) d (s + length (text y)) t in
      let h' = h ∙ append_assoc (words_of y e o p c d s t) l r in
      below_words ys i x (e + elements y) (o + length (text y)) p (c + 1) d (s + length (text y)) t r n (next_words ws y e o p c d s t (l ++ r) h') g (omega arith)

  -- and those of each tree among all
  root_words : (ts : List (Tree ℕ)) (i : ℕ) (x : Tree ℕ) (e o t : ℕ) (r : List ℕ) (n : ℕ) → drop (8 * e) ws ≡ words_all ts e o t ++ r → get_elem? ts i ≡ some x → n ≡ e + elements_of (forest (take i ts)) → WordsAt ws x n
  unfolding words_all forest elements
  root_words [] i x e o t r n h g q = none_some g
  root_words (y ∷ ys) zero x e o t r n h g q =
      let z : n ≡ e = omega arith in
      let l : List ℕ = words_all ys (e + elements y) (o + length (text y)) (t + 1) in
      rw (z, ← some_inj g) (record { o = o; p = 0; c = t; d = 1; s = 0; t = t; rest = l ++ r; at = h ∙ append_assoc (words_of y e o 0 t 1 0 t) l r })
  root_words (y ∷ ys) (suc i) x e o t r n h g q =
      let l : List ℕ = words_all ys (e + elements y) (o + length (text y)) (t + 1) in
      let h' = h ∙ append_assoc (words_of y e o 0 t 1 0 t) l r in
      root_words ys i x (e + elements y) (o + length (text y)) (t + 1) r n (next_words ws y e o 0 t 1 0 t (l ++ r) h') g (omega arith)

  child_words : (x : Tree ℕ) (e i : ℕ) (c : Tree ℕ) (n : ℕ) → WordsAt ws x e → get_elem? (list (children x)) i ≡ some c → n ≡ suc (e + elements_of (forest (take i (list (children x))))) → WordsAt ws c n
  unfolding words_of children list
  child_words (token k own) e i c n w g q = none_some g
  child_words (node k cs) e i c n w g q =
      let l : List ℕ = words_below cs (e + 1) w.o (e + 1) 0 (w.d + 1) w.s w.t ++ w.rest in
      let h = after_eight ws e w.o w.p w.c w.d w.s _ _ w.t l w.at in
      below_words cs i c (e + 1) w.o (e + 1) 0 (w.d + 1) w.s w.t w.rest n (ap (λ (m : ℕ). drop (8 * m) ws) (add-one e) ∙ h) g (omega arith)

  element_words : (p : Path) (e d : Element) → WordsAt ws e.tree e.number → element_at e p ≡ some d → WordsAt ws d.tree d.number
  unfolding element_at before
  element_words [] e d w g = rw (← some_inj g) w
  element_words (i ∷ p) e d w g =
      let (c, a, b) = bind_some (child_of e i) (λ c. element_at c p) g in
      let k = child_is e c i a in
      element_words p c d (child_words e.tree e.number i c.tree c.number w k.found k.number) b

  -- THE LAW: where the words are those of the trees, word 6 is the element after the subtree
  pub afters : (rs : List ℕ) (ts : List (Tree ℕ)) (r : List ℕ) → ws ≡ words_all ts 0 0 0 ++ r → (e : ℕ) → e < length (table 0 0 ts) → field ws rs 6 e ≡ after ts e
  unfolding element root_of
  afters rs ts r h e b = let s = stands ts e b in go s.here.path s s.at
    where
      go : (p : Path) (s : Stands ts e) → element ts p ≡ some s.here → field ws rs 6 e ≡ after ts e
      go [] s g = none_some g
      go (t ∷ p) s g =
          let (x, a, q) = bind_some (root_of ts t) (λ x. element_at x p) g in
          let (c, f, z) = map_some _ (get_elem? ts t) a in
          let top : WordsAt ws x.tree x.number = rw (← z) (root_words ts t c 0 0 0 r (elements_of (forest (take t ts))) h f (omega arith)) in
          let w = element_words p x s.here top q in
          ap (field ws rs 6) (sym s.number) ∙ (after_word ws rs s.here.tree s.here.number w.o w.p w.c w.d w.s w.t w.rest w.at ∙ (ap (λ (k : ℕ). k + elements s.here.tree) s.number ∙ sym (after_stands ts e s)))

-- the subtree of an element ends where all elements do, or before
pub after_within : (ts : List (Tree ℕ)) (e : ℕ) → e < length (table 0 0 ts) → after ts e ≤ length (table 0 0 ts)
after_within ts e b = let s = stands ts e b in rw (after_stands ts e s) (go s (elements s.here.tree) (omega arith))
  where
    go : (s : Stands ts e) (m : ℕ) → m ≤ elements s.here.tree → e + m ≤ length (table 0 0 ts)
    go s zero q = omega arith
    go s (suc m) q =
        let r = reach_tree s.here.tree s.here m (omega arith) in
        let at = element_below ts s.here.path s.here r.path s.at ∙ r.at in
        omega (arith, stands_within ts r.found.number (element_stands ts (s.here.path ++ r.path) r.found at), r.number, s.number)
