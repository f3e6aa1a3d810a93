-- The walk writes, for elements that spell trees, the words that the trees themselves have.
-- Assumes nothing.
use Rattle.std.specs.Prelude.{◌≡◌, refl, length, set}
use Rattle.std.proofs.Common.{ap, ◌∙◌, add-zero, add-one, length-append}
use mathlib.Core.List.{List, [], ◌∷◌, ◌++◌, append_assoc, append-nil}
use Prim.Native.Nat.{ℕ, suc, ◌+◌, ◌-◌, ◌*◌}
use native.Mathlib.Omega.{arith}
use Rattle.orders.specs.Tree.{Tree, Trees, node, token, nil, cons, list, forest, preorders, elements, elements_of, text, text_of}
use Rattle.read_element_table.specs.declared.Open.{Open}
use Rattle.read_spelling.specs.Spelling.{children_of, length_of}
use Rattle.read_element_table.specs.Filling.{open_of, ended, if_root, entered, table_from, table_of, rows_from, source_of}
use Rattle.read_spelling.specs.Preorder.{flat, flats, flat_node, flat_token, flats_cons, Worded, WordedAll}

-- ── A turn of the walk ──────────────────────────────────────────────────────────────────────────────────────

module _ (x : Open) (s : List Open) (i o at t : ℕ) (w : List ℕ) where
  -- an element to which no child is to come is closed
  pub table_close : (es : List (ℕ × ℕ)) → x.left ≡ 0 → table_from (x ∷ s) i o at t w es ≡ table_from s i o at t (ended x.owner at i w) es
  unfolding table_from
  table_close [] h = rw h
  table_close (e ∷ es) h = rw h

  -- the next element is opened
  pub table_open : (l k m : ℕ) (es : List (ℕ × ℕ)) → x.left ≡ suc l
      → table_from (x ∷ s) i o at t w ((k, m) ∷ es)
      ≡ table_from (open_of (children_of k m) (i + 1) 0 ∷ open_of l x.owner (x.next + 1) ∷ s) (i + 1) (o + length_of k m) (if_root s 0 at + length_of k m) (if_root s x.next t)
      (w ++ (o ∷ x.owner ∷ x.next ∷ (length s + 1) ∷ if_root s 0 at ∷ (if_root s 0 at + length_of k m) ∷ (i + 1) ∷ if_root s x.next t ∷ [])) es
  unfolding table_from
  table_open l k m es h = rw h (rw (h, entered))

pub table_end : (i o at t : ℕ) (w : List ℕ) → table_from [] i o at t w [] ≡ w
unfolding table_from
table_end i o at t w = refl

-- an element is closed; all the trees together are none
module _ (p end after : ℕ) (w : List ℕ) where
  pub ended_none : p ≡ 0 → w ≡ ended p end after w
  unfolding ended
  ended_none h = rw h

  pub ended_some : (p ≡ 0 → ⊥) → set (set w (8 * (p - 1) + 5) end) (8 * (p - 1) + 6) after ≡ ended p end after w
  unfolding ended
  ended_some h = let e : p ≡ suc (p - 1) = omega arith in rw (ap (λ q. ended q end after w) e)

-- ── The words of trees ──────────────────────────────────────────────────────────────────────────────────────

-- those of a tree whose root is element e with text offset o, parent p - 1, child number c, depth d, text start s, in tree number t
unfoldable mutual
  pub words_of : Tree ℕ → ℕ → ℕ → ℕ → ℕ → ℕ → ℕ → ℕ → List ℕ
  words_of (node k cs) e o p c d s t = o ∷ p ∷ c ∷ d ∷ s ∷ (s + length (text_of cs)) ∷ (e + suc (elements_of cs)) ∷ t ∷ words_below cs (e + 1) o (e + 1) 0 (d + 1) s t
  words_of (token k own) e o p c d s t = o ∷ p ∷ c ∷ d ∷ s ∷ (s + length own) ∷ (e + 1) ∷ t ∷ []

  -- those of the children from number c on, the first of them e
  pub words_below : Trees ℕ → ℕ → ℕ → ℕ → ℕ → ℕ → ℕ → ℕ → List ℕ
  words_below nil e o p c d s t = []
  words_below (cons x xs) e o p c d s t = words_of x e o p c d s t ++ words_below xs (e + elements x) (o + length (text x)) p (c + 1) d (s + length (text x)) t

-- those of the trees from number t on
unfoldable pub words_all : List (Tree ℕ) → ℕ → ℕ → ℕ → List ℕ
unfolding words_of
words_all [] e o t = []
words_all (x ∷ xs) e o t = words_of x e o 0 t 1 0 t ++ words_all xs (e + elements x) (o + length (text x)) (t + 1)

mutual
  unfolding words_of elements

  pub length_words : (x : Tree ℕ) (e o p c d s t : ℕ) → length (words_of x e o p c d s t) ≡ 8 * elements x
  length_words (node k cs) e o p c d s t = omega (arith, length_below cs (e + 1) o (e + 1) 0 (d + 1) s t)
  length_words (token k own) e o p c d s t = refl

  pub length_below : (cs : Trees ℕ) (e o p c d s t : ℕ) → length (words_below cs e o p c d s t) ≡ 8 * elements_of cs
  length_below nil e o p c d s t = refl
  length_below (cons x xs) e o p c d s t =
      rw (length-append (words_of x e o p c d s t) (words_below xs (e + elements x) (o + length (text x)) p (c + 1) d (s + length (text x)) t)) (omega (arith, length_words x e o p c d s t, length_below xs (e + elements x) (o + length (text x)) p (c + 1) d (s + length (text x)) t))

pub length_all : (ts : List (Tree ℕ)) (e o t : ℕ) → length (words_all ts e o t) ≡ 8 * elements_of (forest ts)
unfolding words_all elements_of forest
length_all [] e o t = refl
length_all (x ∷ xs) e o t =
    rw (length-append (words_of x e o 0 t 1 0 t) (words_all xs (e + elements x) (o + length (text x)) (t + 1))) (omega (arith, length_words x e o 0 t 1 0 t, length_all xs (e + elements x) (o + length (text x)) (t + 1)))

-- a store behind a front
set_behind : (w l : List ℕ) (n j v : ℕ) → length w ≡ n → set (w ++ l) (n + j) v ≡ w ++ set l j v
set_behind [] l n j v h = let e : n + j ≡ j = omega arith in rw e
set_behind (x ∷ w) l n j v h = let e : n + j ≡ suc (length w + j) = omega arith in rw e (ap (λ z. x ∷ z) (set_behind w l (length w) j v refl))

-- the words of an element that is closed
pub ended_at : (w r : List ℕ) (e o p c d s x y t end after : ℕ) → length w ≡ 8 * e → ended (e + 1) end after (w ++ (o ∷ p ∷ c ∷ d ∷ s ∷ x ∷ y ∷ t ∷ r)) ≡ w ++ (o ∷ p ∷ c ∷ d ∷ s ∷ end ∷ after ∷ t ∷ r)
unfolding ended
ended_at w r e o p c d s x y t end after h =
    rw (add-one e, set_behind w (o ∷ p ∷ c ∷ d ∷ s ∷ x ∷ y ∷ t ∷ r) (8 * e) 5 end h) (set_behind w (o ∷ p ∷ c ∷ d ∷ s ∷ end ∷ y ∷ t ∷ r) (8 * e) 6 after h)

-- ── The walk of a tree ──────────────────────────────────────────────────────────────────────────────────────

-- an element is opened, what is below it is walked, and it is closed
walk_one : (k m : ℕ) (kids : List (ℕ × ℕ)) (below : List ℕ) (l p c : ℕ) (s : List Open) (i o at t : ℕ) (w : List ℕ) (r : List (ℕ × ℕ)) (n d a u c' i' o' at' : ℕ)
    → length w ≡ 8 * i → d ≡ length s + 1 → a ≡ if_root s 0 at → u ≡ if_root s c t → n ≡ length_of k m
    → ((w' : List ℕ) → length w' ≡ 8 * (i + 1)
    → table_from (open_of (children_of k m) (i + 1) 0 ∷ open_of l p (c + 1) ∷ s) (i + 1) (o + n) (a + n) u w' (kids ++ r)
    ≡ table_from (open_of 0 (i + 1) c' ∷ open_of l p (c + 1) ∷ s) i' o' at' u (w' ++ below) r)
    → table_from (open_of (suc l) p c ∷ s) i o at t w ((k, m) ∷ kids ++ r)
    ≡ table_from (open_of l p (c + 1) ∷ s) i' o' at' u (w ++ (o ∷ p ∷ c ∷ d ∷ a ∷ at' ∷ i' ∷ u ∷ below)) r
walk_one k m kids below l p c s i o at t w r n d a u c' i' o' at' hw hd ha hu hn ih =
    let row : List ℕ = o ∷ p ∷ c ∷ d ∷ a ∷ (a + n) ∷ (i + 1) ∷ u ∷ [] in
    let x : Open = open_of (suc l) p c in
    let y : Open = open_of l p (c + 1) in
    let z : Open = open_of 0 (i + 1) c' in
    let hw' : length (w ++ row) ≡ 8 * (i + 1) = simp length-append (omega arith) in
    table_open x s i o at t w l k m (kids ++ r) refl
    ∙ rw (← hd, ← ha, ← hu, ← hn) (ih (w ++ row) hw'
    ∙ (table_close z (y ∷ s) i' o' at' u ((w ++ row) ++ below) r refl
    ∙ rw (append_assoc w row below, ended_at w below i o p c d a (a + n) (i + 1) u at' i' hw)))

mutual
  unfolding list elements text words_of length_of children_of flats preorders if_root

  pub walk_tree : (x : Tree ℕ) → Worded x → (l p c : ℕ) (s : List Open) (i o at t : ℕ) (w : List ℕ) (r : List (ℕ × ℕ)) (d a u i' o' at' : ℕ)
      → length w ≡ 8 * i → d ≡ length s + 1 → a ≡ if_root s 0 at → u ≡ if_root s c t → i' ≡ i + elements x → o' ≡ o + length (text x) → at' ≡ a + length (text x)
      → table_from (open_of (suc l) p c ∷ s) i o at t w (flat x ++ r)
      ≡ table_from (open_of l p (c + 1) ∷ s) i' o' at' u (w ++ words_of x i o p c d a u) r
  walk_tree (token k own) n l p c s i o at t w r d a u i' o' at' hw hd ha hu hi ho hs =
      rw (flat_token k own, ← hi, ← hs) (walk_one k (length own) [] [] l p c s i o at t w r (length own) d a u 0 i' o' at' hw hd ha hu (rw n) (λ w' h. rw (n, ← hi, ← ho, ← hs, append-nil w')))
  walk_tree (node k cs) n l p c s i o at t w r d a u i' o' at' hw hd ha hu hi ho hs =
      let m : ℕ = length (list cs) in
      let y : Open = open_of l p (c + 1) in
      rw (flat_node k cs, ← hi, ← hs) (walk_one k m (flats cs) (words_below cs (i + 1) o (i + 1) 0 (d + 1) a u) l p c s i o at t w r 0 d a u m i' o' at' hw hd ha hu (rw n.0)
      (λ w' h. rw (n.0, add-zero o, add-zero a) (walk_trees cs n.1 m 0 (i + 1) 0 y s (i + 1) o a u w' r (d + 1) m i' o' at' h (omega arith) (omega arith) (omega arith) (omega arith) ho hs)))

  -- of the children of an open element
  walk_trees : (cs : Trees ℕ) → WordedAll cs → (m l p c : ℕ) (f : Open) (s : List Open) (i o at t : ℕ) (w : List ℕ) (r : List (ℕ × ℕ)) (d c' i' o' at' : ℕ)
      → length w ≡ 8 * i → d ≡ length s + 2 → m ≡ length (list cs) + l → c' ≡ c + length (list cs) → i' ≡ i + elements_of cs → o' ≡ o + length (text_of cs) → at' ≡ at + length (text_of cs)
      → table_from (open_of m p c ∷ f ∷ s) i o at t w (flats cs ++ r)
      ≡ table_from (open_of l p c' ∷ f ∷ s) i' o' at' t (w ++ words_below cs i o p c d at t) r
  walk_trees nil n m l p c f s i o at t w r d c' i' o' at' hw hd hm hc hi ho ha =
      let em : m ≡ l = omega arith in
      let ec : c' ≡ c = omega arith in
      let ei : i' ≡ i = omega arith in
      let eo : o' ≡ o = omega arith in
      let ea : at' ≡ at = omega arith in
      rw (append-nil w, em, ec, ei, eo, ea)
  walk_trees (cons x xs) n m l p c f s i o at t w r d c' i' o' at' hw hd hm hc hi ho ha =
      let q : ℕ = length (list xs) + l in
      let i'' : ℕ = i + elements x in
      let o'' : ℕ = o + length (text x) in
      let at'' : ℕ = at + length (text x) in
      let w'' : List ℕ = w ++ words_of x i o p c d at t in
      let em : m ≡ suc q = omega arith in
      let lt = length-append (text x) (text_of xs) in
      let lw : length w'' ≡ 8 * i'' = rw (length-append w (words_of x i o p c d at t), length_words x i o p c d at t) (omega arith) in
      rw (em, flats_cons x xs, append_assoc (flat x) (flats xs) r)
      (walk_tree x n.0 q p c (f ∷ s) i o at t w (flats xs ++ r) d at t i'' o'' at'' hw (omega arith) refl refl refl refl refl
      ∙ (walk_trees xs n.1 q l p (c + 1) f s i'' o'' at'' t w'' r d c' i' o' at' lw hd refl (omega arith) (omega arith) (omega arith) (omega arith)
      ∙ rw (append_assoc w (words_of x i o p c d at t) (words_below xs i'' o'' p (c + 1) d at'' t))))

-- of all trees
walk_all : (ts : List (Tree ℕ)) → WordedAll (forest ts) → (m c i o at t : ℕ) (w : List ℕ) → m ≡ length ts → length w ≡ 8 * i
    → table_from (open_of m 0 c ∷ []) i o at t w (flats (forest ts)) ≡ w ++ words_all ts i o c
unfolding forest flats preorders words_all if_root table_from
walk_all [] n m c i o at t w hm hw = rw (hm, append-nil w)
walk_all (x ∷ xs) n m c i o at t w hm hw =
    let q : ℕ = length xs in
    let w' : List ℕ = w ++ words_of x i o 0 c 1 0 c in
    let i' : ℕ = i + elements x in
    let o' : ℕ = o + length (text x) in
    let lw : length w' ≡ 8 * i' = rw (length-append w (words_of x i o 0 c 1 0 c), length_words x i o 0 c 1 0 c) (omega arith) in
    rw (hm, flats_cons x (forest xs))
    (walk_tree x n.0 q 0 c [] i o at t w (flats (forest xs)) 1 0 c i' o' (0 + length (text x)) hw (omega arith) refl refl refl refl refl
    ∙ (walk_all xs n.1 q (c + 1) i' o' (0 + length (text x)) c w' refl lw ∙ append_assoc w (words_of x i o 0 c 1 0 c) (words_all xs i' o' (c + 1))))

-- THE LAW: the table of the elements of trees has the words of the trees
pub table_words : (ts : List (Tree ℕ)) → WordedAll (forest ts) → table_of (length ts) (flats (forest ts)) ≡ words_all ts 0 0 0
unfolding table_of
table_words ts n = walk_all ts n (length ts) 0 0 0 0 0 [] refl refl

-- ── The rows ────────────────────────────────────────────────────────────────────────────────────────────────

pub length_rows : (o : ℕ) (es : List (ℕ × ℕ)) → length (rows_from o es) ≡ 3 * length es
unfolding rows_from
length_rows o [] = refl
length_rows o (e ∷ es) = omega (arith, length_rows (o + length_of e.0 e.1) es)

pub length_source : (trees : ℕ) (es : List (ℕ × ℕ)) → length (source_of trees es) ≡ 3 * (length es + 1)
unfolding source_of
length_source trees es = omega (arith, length_rows 0 es)
