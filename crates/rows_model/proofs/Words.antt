-- Words and the rows that they tell: parts of the one are parts of the other.
-- Assumes nothing.
use Rattle.std.specs.Prelude.{◌≡◌, refl, Bool, true, false, ◌⊎◌, leb, length, take, drop, get_or, set}
use Rattle.std.proofs.Common.{sym, ◌∙◌, inl, inr, arith, length-drop, drop_of_length-le, length-take-le, get_or-take, take-take, lt-ltb, le-ltb, le-leb, leb-true}
use Rattle.std.proofs.Math.Path.{ap}
use mathlib.Core.List.{List, [], ◌∷◌, ◌++◌, map}
use Rattle.std.specs.List.{sum, sum_by, range_with_len}
use Rattle.std.proofs.lemmas.List.Sums.{sum_by-cons}
use Rattle.std.proofs.Math.Numerals.{add-one}
use Rattle.std.proofs.Math.Option.{Option, some}
use Prim.Native.Nat.{ℕ, zero, suc, ◌+◌, ◌-◌, ◌*◌, ◌/◌, ◌≤◌, ◌<◌}
use Rattle.std.proofs.Math.Nat.{suc-sub-suc}
use Rattle.std.proofs.Math.ListN.{get_elem?}
use Rattle.orders.specs.Tree.{Tree, Trees, node, token, list, Path, resolve, modify}
use Rattle.orders.specs.ListLaws.{some_inj, lt_or_le}
use Rattle.rows_model.specs.Row.{Row, tok, nod, outside, kind, measure, owes, text_length, row_of, rows_of, row_at, triples, first_rows, row_in}
use Rattle.rows_model.specs.Place.{size, place, between}
use Rattle.rows_model.proofs.PlaceLaws.{place_lt, row_at_lem}

-- ── Three words ─────────────────────────────────────────────────────────────────────────────────────────────

-- a row is told by a token's kind word or by a node's
data Told (text : List ℕ) (k m o : ℕ) : Row → Type 0 where
  is_token : k < 2147483648 → o + m ≤ length text → Told text k m o (tok k (take m (drop o text)))
  is_outside : k < 2147483648 → Told text k m o (outside k m)
  is_node : 2147483648 ≤ k → Told text k m o (nod k m)

told : (text : List ℕ) (k m o : ℕ) → Told text k m o (row_at text k m o)
told text k m o = go (lt_or_le k 2147483648) (leb (o + m) (length text)) refl
  where
    go : (k < 2147483648) ⊎ (2147483648 ≤ k) → (b : Bool) → leb (o + m) (length text) ≡ b → Told text k m o (row_at text k m o)
    go (inl h) true e = rw (lt-ltb k 2147483648 h, e) (is_token h (leb-true (o + m) (length text) e))
    go (inl h) false e = rw (lt-ltb k 2147483648 h, e) (is_outside h)
    go (inr h) b e = rw (le-ltb k 2147483648 h) (is_node h)

module _ (text : List ℕ) (k m o : ℕ) where
  own_long : o + m ≤ length text → length (take m (drop o text)) ≡ m
  own_long h = length-take-le m (drop o text) (simp length-drop (omega arith))

  -- the words that are read are the row's
  pub kind_word : kind (row_at text k m o) ≡ k
  kind_word = go (told text k m o)
    where
      go : {r : Row} → Told text k m o r → kind r ≡ k
      go (is_token h l) = refl
      go (is_outside h) = refl
      go (is_node h) = refl

  pub measure_word : measure (row_at text k m o) ≡ m
  measure_word = go (told text k m o)
    where
      go : {r : Row} → Told text k m o r → measure r ≡ m
      go (is_token h l) = own_long l
      go (is_outside h) = refl
      go (is_node h) = refl

  pub token_row : k < 2147483648 → o + m ≤ length text → row_at text k m o ≡ tok k (take m (drop o text))
  token_row h l = rw (lt-ltb k 2147483648 h, le-leb (o + m) (length text) l)

  pub node_row : 2147483648 ≤ k → row_at text k m o ≡ nod k m
  node_row h = rw (le-ltb k 2147483648 h)

  pub token_owes : k < 2147483648 → owes (row_at text k m o) ≡ 0
  token_owes h = go (told text k m o)
    where
      go : {r : Row} → Told text k m o r → owes r ≡ 0
      go (is_token h l) = refl
      go (is_outside h) = refl
      go (is_node l) = absurd (omega arith)

  pub token_length : k < 2147483648 → text_length (row_at text k m o) ≡ m
  token_length h = go (told text k m o)
    where
      go : {r : Row} → Told text k m o r → text_length r ≡ m
      go (is_token h l) = own_long l
      go (is_outside h) = refl
      go (is_node l) = absurd (omega arith)

  -- words that tell a node, and words that tell a token
  pub node_words : (k' m' : ℕ) → row_at text k m o ≡ nod k' m' → (2147483648 ≤ k) × (k ≡ k') × (m ≡ m')
  node_words k' m' e = go (row_at text k m o) (told text k m o) e
    where
      go : (r : Row) → Told text k m o r → r ≡ nod k' m' → (2147483648 ≤ k) × (k ≡ k') × (m ≡ m')
      go _ (is_token h l) e = let z : ◌≡◌ {A = ℕ} 0 1 = cc in absurd (omega arith)
      go _ (is_outside h) e = let z : ◌≡◌ {A = ℕ} 0 1 = cc in absurd (omega arith)
      go _ (is_node h) e = (h, cc, cc)

  pub token_words : (k' : ℕ) (x : List ℕ) → row_at text k m o ≡ tok k' x → (k < 2147483648) × (k ≡ k') × (o + m ≤ length text) × (m ≡ length x) × (take m (drop o text) ≡ x)
  token_words k' x e = go (row_at text k m o) (told text k m o) e
    where
      go : (r : Row) → Told text k m o r → r ≡ tok k' x → (k < 2147483648) × (k ≡ k') × (o + m ≤ length text) × (m ≡ length x) × (take m (drop o text) ≡ x)
      go _ (is_token h l) e = let z : take m (drop o text) ≡ x = cc in (h, cc, l, sym (own_long l) ∙ ap length z, z)
      go _ (is_outside h) e = let z : ◌≡◌ {A = ℕ} 0 1 = cc in absurd (omega arith)
      go _ (is_node h) e = let z : ◌≡◌ {A = ℕ} 0 1 = cc in absurd (omega arith)

-- ── Many words ──────────────────────────────────────────────────────────────────────────────────────────────

pub thrice : (n j : ℕ) → 3 * suc n + j ≡ suc (suc (suc (3 * n + j)))
thrice n j = omega arith

pub thrice₀ : (n : ℕ) → 3 * suc n ≡ suc (suc (suc (3 * n)))
thrice₀ n = omega arith

module _ (t : List ℕ) where
  pub length_triples : (l : List ℕ) → length (triples t l) ≡ length l / 3
  length_triples [] = refl
  length_triples (k ∷ []) = refl
  length_triples (k ∷ m ∷ []) = refl
  length_triples (k ∷ m ∷ o ∷ l) = omega (arith, length_triples l)

  pub triples_take : (n : ℕ) (l : List ℕ) → triples t (take (3 * n) l) ≡ take n (triples t l)
  triples_take zero l = refl
  triples_take (suc n) [] = rw (thrice₀ n)
  triples_take (suc n) (k ∷ []) = rw (thrice₀ n)
  triples_take (suc n) (k ∷ m ∷ []) = rw (thrice₀ n)
  triples_take (suc n) (k ∷ m ∷ o ∷ l) = rw (thrice₀ n) (ap (λ (x : List Row). row_at t k m o ∷ x) (triples_take n l))

  pub triples_drop : (n : ℕ) (l : List ℕ) → triples t (drop (3 * n) l) ≡ drop n (triples t l)
  triples_drop zero l = refl
  triples_drop (suc n) [] = rw (thrice₀ n)
  triples_drop (suc n) (k ∷ []) = rw (thrice₀ n)
  triples_drop (suc n) (k ∷ m ∷ []) = rw (thrice₀ n)
  triples_drop (suc n) (k ∷ m ∷ o ∷ l) = rw (thrice₀ n) (triples_drop n l)

  pub triples_append : (n : ℕ) (x y : List ℕ) → length x ≡ 3 * n → triples t (x ++ y) ≡ triples t x ++ triples t y
  triples_append n [] y h = refl
  triples_append n (k ∷ []) y h = absurd (omega arith)
  triples_append n (k ∷ m ∷ []) y h = absurd (omega arith)
  triples_append zero (k ∷ m ∷ o ∷ x) y h = absurd (omega arith)
  triples_append (suc n) (k ∷ m ∷ o ∷ x) y h = ap (λ (z : List Row). row_at t k m o ∷ z) (triples_append n x y (omega arith))

  -- the row at i, and those behind it
  pub triples_at : (i : ℕ) (l : List ℕ) → 3 * i + 2 < length l → drop i (triples t l) ≡ row_in t l i ∷ drop (suc i) (triples t l)
  triples_at i [] h = absurd (omega arith)
  triples_at i (k ∷ []) h = absurd (omega arith)
  triples_at i (k ∷ m ∷ []) h = absurd (omega arith)
  triples_at zero (k ∷ m ∷ o ∷ l) h = refl
  triples_at (suc i) (k ∷ m ∷ o ∷ l) h = rw (thrice i 1, thrice i 2, thrice₀ i) (triples_at i l (omega arith))

  pub triples_end : (i : ℕ) (l : List ℕ) → length l ≤ 3 * i + 2 → drop i (triples t l) ≡ []
  triples_end i l h = drop_of_length-le (triples t l) {i = i} (omega (arith, length_triples l))

  -- the library's sum over the rows from i on
  pub rows_summed : (f : Row → ℕ) (l : List ℕ) (i n : ℕ) → i + n ≡ length l / 3 → sum (map (λ k. f (row_in t l k)) (range_with_len i n)) ≡ sum_by f (drop i (triples t l))
  rows_summed f l i zero e = sym (ap (sum_by f) (triples_end i l (omega arith)))
  rows_summed f l i (suc n) e =
      let rest = rows_summed f l (i + 1) n (omega arith) ∙ ap (λ (j : ℕ). sum_by f (drop j (triples t l))) (add-one i) in
      let more = ap (sum_by f) (triples_at i l (omega arith)) ∙ sum_by-cons f (row_in t l i) (drop (suc i) (triples t l)) in
      sum_by-cons (λ x. x) (f (row_in t l i)) (map (λ k. f (row_in t l k)) (range_with_len (i + 1) n)) ∙ (ap (λ (m : ℕ). f (row_in t l i) + m) rest ∙ sym more)

  pub triples_get : (i : ℕ) (l : List ℕ) → 3 * i + 2 < length l → get_elem? (triples t l) i ≡ some (row_in t l i)
  triples_get i [] h = absurd (omega arith)
  triples_get i (k ∷ []) h = absurd (omega arith)
  triples_get i (k ∷ m ∷ []) h = absurd (omega arith)
  triples_get zero (k ∷ m ∷ o ∷ l) h = refl
  triples_get (suc i) (k ∷ m ∷ o ∷ l) h = rw (thrice i 1, thrice i 2, thrice₀ i) (triples_get i l (omega arith))

  -- a measure that is written
  pub triples_set : (i : ℕ) (l : List ℕ) (v : ℕ) (g : Row → Row) → 3 * i + 2 < length l → g (row_in t l i) ≡ row_at t (get_or l (3 * i) 0) v (get_or l (3 * i + 2) 0)
      → triples t (set l (3 * i + 1) v) ≡ modify i g (triples t l)
  unfolding modify
  triples_set i [] v g h e = absurd (omega arith)
  triples_set i (k ∷ []) v g h e = absurd (omega arith)
  triples_set i (k ∷ m ∷ []) v g h e = absurd (omega arith)
  triples_set zero (k ∷ m ∷ o ∷ l) v g h e = ap (λ (x : Row). x ∷ triples t l) (sym e)
  triples_set (suc i) (k ∷ m ∷ o ∷ l) v g h e =
      rw (thrice i 1) (ap (λ (z : List Row). row_at t k m o ∷ z) (triples_set i l v g (omega arith) (rw (thrice i 1, thrice i 2, thrice₀ i) at e)))

-- ── The first n rows of words that may be more ──────────────────────────────────────────────────────────────

module _ (t : List ℕ) (n : ℕ) (l : List ℕ) (h : 3 * n ≤ length l) where
  words_long : length (take (3 * n) l) ≡ 3 * n
  words_long = length-take-le (3 * n) l h

  pub length_first : length (first_rows t n l) ≡ n
  length_first = length_triples t (take (3 * n) l) ∙ omega (arith, words_long)

  pub first_end : (i : ℕ) → n ≤ i → drop i (first_rows t n l) ≡ []
  first_end i k = triples_end t i (take (3 * n) l) (omega (arith, words_long))

  module _ (i : ℕ) (k : i < n) where
    first_row : row_in t (take (3 * n) l) i ≡ row_in t l i
    first_row = rw (get_or-take (3 * n) l (3 * i) 0 (omega arith), get_or-take (3 * n) l (3 * i + 1) 0 (omega arith), get_or-take (3 * n) l (3 * i + 2) 0 (omega arith))

    pub first_at : drop i (first_rows t n l) ≡ row_in t l i ∷ drop (suc i) (first_rows t n l)
    first_at = triples_at t i (take (3 * n) l) (omega (arith, words_long)) ∙ ap (λ (r : Row). r ∷ drop (suc i) (first_rows t n l)) first_row

    pub first_get : get_elem? (first_rows t n l) i ≡ some (row_in t l i)
    first_get = triples_get t i (take (3 * n) l) (omega (arith, words_long)) ∙ ap {B = Option Row} some first_row

between_take : (p q n : ℕ) (rs : List Row) → p ≤ q → q ≤ n → between p q (take n rs) ≡ between p q rs
unfolding between
between_take zero q n rs h k = take-take (q - 0) n rs (omega arith)
between_take (suc p) q zero rs h k = absurd (omega arith)
between_take (suc p) q (suc n) [] h k = refl
between_take (suc p) zero (suc n) (r ∷ rs) h k = absurd (omega arith)
between_take (suc p) (suc q) (suc n) (r ∷ rs) h k = rw (suc-sub-suc q p) (between_take p q n rs (omega arith) (omega arith))

-- a part of the words is a part of the rows
pub words_between : (t : List ℕ) (n : ℕ) (l : List ℕ) (p q : ℕ) → p ≤ q → q ≤ n → triples t (take (3 * q - 3 * p) (drop (3 * p) l)) ≡ between p q (first_rows t n l)
unfolding between
words_between t n l p q h k =
    let e : 3 * q - 3 * p ≡ 3 * (q - p) = omega arith in
    rw (e, triples_take t (q - p) (drop (3 * p) l), triples_drop t p l, triples_take t n l) (sym (between_take p q n (triples t l) h k))

-- ── The words at the place of an element ────────────────────────────────────────────────────────────────────

-- words whose first n rows are those of a tree
module _ (text : List ℕ) (n : ℕ) (ws : List ℕ) (t : Tree ℕ) (long : 3 * n ≤ length ws) (e : first_rows text n ws ≡ rows_of t) where
  pub rows_many : size t ≡ n
  rows_many = sym (ap length e) ∙ length_first text n ws long

  told_at : (q : Path) (u : Tree ℕ) → resolve q t ≡ some u → row_in text ws (place q t) ≡ row_of u
  told_at q u f = some_inj (sym (first_get text n ws long (place q t) (omega (arith, place_lt q t u f, rows_many))) ∙ (ap (λ rs. get_elem? rs (place q t)) e ∙ row_at_lem q t u f))

  pub node_at : (q : Path) (k : ℕ) (cs : Trees ℕ) → resolve q t ≡ some (node k cs)
      → (2147483648 ≤ get_or ws (3 * place q t) 0) × (get_or ws (3 * place q t) 0 ≡ k) × (get_or ws (3 * place q t + 1) 0 ≡ length (list cs))
  node_at q k cs f = node_words text _ _ _ k (length (list cs)) (told_at q (node k cs) f)

  pub token_at : (q : Path) (k : ℕ) (x : List ℕ) → resolve q t ≡ some (token k x)
      → (get_or ws (3 * place q t) 0 < 2147483648) × (get_or ws (3 * place q t) 0 ≡ k) × (get_or ws (3 * place q t + 2) 0 + get_or ws (3 * place q t + 1) 0 ≤ length text)
      × (get_or ws (3 * place q t + 1) 0 ≡ length x) × (take (get_or ws (3 * place q t + 1) 0) (drop (get_or ws (3 * place q t + 2) 0) text) ≡ x)
  token_at q k x f = token_words text _ _ _ k x (told_at q (token k x) f)
