-- Rows in which every third word that tells nothing is 0: a node's, and that of a token without text.
-- Assumes nothing.
use Rattle.std.specs.Prelude.{◌≡◌, refl, Bool, true, false, cond, List, [], ◌∷◌, ◌⊎◌, ℕ, zero, suc, ◌+◌, ◌*◌, ◌≤◌, ◌<◌, drop, set, ltb, leb, eqb}
use Rattle.std.proofs.Common.{sym, ◌∙◌, inl, inr, zero-add}
use Rattle.std.proofs.Math.Path.{ap}
use native.Mathlib.Omega.{arith}
use Rattle.std.proofs.Math.ListN.{length, take, get_or}
use borrow.Author.Tests.{lt-ltb, le-ltb, leb-true, eq-eqb, ne_eqb}
use Rattle.orders.specs.Lists.{All}
use Rattle.orders.specs.ListLaws.{lt_or_le}
use Rattle.orders.specs.Tree.{Tree, Trees, node, token, nil, cons}
use Rattle.definition_laws.specs.Basics.{All-append, up_from, up_at, up_long}
use Rattle.rows_model.specs.Row.{Row, rows_of, rows_in, row_at, first_rows}
use Rattle.rows_model.proofs.Words.{token_row, node_row, thrice, thrice₀}
use Rattle.splices_model.specs.Places.{up_from_part}
use Rattle.splices_model.specs.SpliceList.{words_of}
use Rattle.splices_model.specs.Found.{Inside, places_below}

-- ── Third words ─────────────────────────────────────────────────────────────────────────────────────────────

-- the third word of a row, 0 where it tells nothing
unfoldable pub plain_word : ℕ → ℕ → ℕ → ℕ
plain_word k m o = cond (ltb k 2147483648) (cond (eqb m 0) 0 o) 0

-- the first n rows with such third words; all other words as they were
unfoldable pub plain : ℕ → List ℕ → List ℕ
plain zero l = l
plain (suc n) [] = []
plain (suc n) (k ∷ []) = k ∷ []
plain (suc n) (k ∷ m ∷ []) = k ∷ m ∷ []
plain (suc n) (k ∷ m ∷ o ∷ l) = k ∷ m ∷ plain_word k m o ∷ plain n l

module _ (k m o : ℕ) where
  pub plain_node : 2147483648 ≤ k → 0 ≡ plain_word k m o
  unfolding plain_word
  plain_node h = rw (le-ltb k 2147483648 h)

  pub plain_empty : k < 2147483648 → m ≡ 0 → 0 ≡ plain_word k m o
  unfolding plain_word
  plain_empty h e = rw (lt-ltb k 2147483648 h, eq-eqb m 0 e)

  pub plain_token : k < 2147483648 → (m ≡ 0 → ⊥) → o ≡ plain_word k m o
  unfolding plain_word
  plain_token h e = rw (lt-ltb k 2147483648 h, ne_eqb m 0 e)

  -- where a token's row tells an element, its text is there
  pub text_there : (text : List ℕ) → Inside (row_at text k m o) → k < 2147483648 → o + m ≤ length text
  text_there text w h = go (leb (o + m) (length text)) refl
    where
      go : (b : Bool) → leb (o + m) (length text) ≡ b → o + m ≤ length text
      go true e = leb-true (o + m) (length text) e
      go false e = absurd (rw (lt-ltb k 2147483648 h, e) at w)

  -- the words of a row that tells an element, in a text of places
  words_plain : (n : ℕ) → Inside (row_at (places_below n) k m o) → (rs : List Row) → words_of (row_at (places_below n) k m o ∷ rs) ≡ k ∷ m ∷ plain_word k m o ∷ words_of rs
  unfolding words_of up_from
  words_plain n w rs = go (lt_or_le k 2147483648) (lt_or_le 0 m)
    where
      go : (k < 2147483648) ⊎ (2147483648 ≤ k) → (0 < m) ⊎ (m ≤ 0) → words_of (row_at (places_below n) k m o ∷ rs) ≡ k ∷ m ∷ plain_word k m o ∷ words_of rs
      go (inr h) v = rw (node_row (places_below n) k m o h, ← plain_node h)
      go (inl h) v =
          let t : o + m ≤ length (places_below n) = text_there (places_below n) w h in
          let p : take m (drop o (places_below n)) ≡ up_from o m = up_from_part o 0 n m (omega (arith, up_long 0 n)) ∙ ap (λ (x : ℕ). up_from x m) (zero-add o) in
          rw (token_row (places_below n) k m o h t, p, up_long o m) (ap (λ (x : ℕ). k ∷ m ∷ x ∷ words_of rs) (first v h))
        where
          first : (0 < m) ⊎ (m ≤ 0) → k < 2147483648 → get_or (up_from o m) 0 0 ≡ plain_word k m o
          first (inl g) h = up_at o m 0 g ∙ (omega arith ∙ plain_token h (λ e. omega arith))
          first (inr g) h = let e : m ≡ 0 = omega arith in rw (← plain_empty h e, e)

-- ── Many rows ───────────────────────────────────────────────────────────────────────────────────────────────

-- one row more
pub plain_next : (i : ℕ) (l : List ℕ) → 3 * i + 2 < length l
    → set (plain i l) (3 * i + 2) (plain_word (get_or (plain i l) (3 * i) 0) (get_or (plain i l) (3 * i + 1) 0) (get_or (plain i l) (3 * i + 2) 0)) ≡ plain (suc i) l
unfolding plain
plain_next i [] h = absurd (omega arith)
plain_next i (k ∷ []) h = absurd (omega arith)
plain_next i (k ∷ m ∷ []) h = absurd (omega arith)
plain_next zero (k ∷ m ∷ o ∷ l) h = refl
plain_next (suc i) (k ∷ m ∷ o ∷ l) h = rw (thrice i 2, thrice i 1, thrice₀ i) (ap (λ (x : List ℕ). k ∷ m ∷ plain_word k m o ∷ x) (plain_next i l (omega arith)))

pub plain_long : (n : ℕ) (l : List ℕ) → length (plain n l) ≡ length l
unfolding plain
plain_long zero l = refl
plain_long (suc n) [] = refl
plain_long (suc n) (k ∷ []) = refl
plain_long (suc n) (k ∷ m ∷ []) = refl
plain_long (suc n) (k ∷ m ∷ o ∷ l) = ap (λ x. suc (suc (suc x))) (plain_long n l)

-- beyond these rows nothing is changed
pub plain_beyond : (n : ℕ) (l : List ℕ) → drop (3 * n) (plain n l) ≡ drop (3 * n) l
unfolding plain
plain_beyond zero l = refl
plain_beyond (suc n) [] = refl
plain_beyond (suc n) (k ∷ []) = refl
plain_beyond (suc n) (k ∷ m ∷ []) = refl
plain_beyond (suc n) (k ∷ m ∷ o ∷ l) = rw (thrice₀ n) (plain_beyond n l)

-- the words of rows that tell elements
pub plain_words : (n i : ℕ) (l : List ℕ) → All Inside (first_rows (places_below n) i l) → 3 * i ≤ length l → take (3 * i) (plain i l) ≡ words_of (first_rows (places_below n) i l)
unfolding plain words_of
plain_words n zero l h g = refl
plain_words n (suc i) [] h g = absurd (omega arith)
plain_words n (suc i) (k ∷ []) h g = absurd (omega arith)
plain_words n (suc i) (k ∷ m ∷ []) h g = absurd (omega arith)
plain_words n (suc i) (k ∷ m ∷ o ∷ l) h g =
    let h' : Inside (row_at (places_below n) k m o) × All Inside (first_rows (places_below n) i l) = rw (thrice₀ i) at h in
    rw (thrice₀ i) (ap (λ (x : List ℕ). k ∷ m ∷ plain_word k m o ∷ x) (plain_words n i l h'.1 (omega arith)) ∙ sym (words_plain k m o n h'.0 (first_rows (places_below n) i l)))

-- the rows of a tree tell elements
mutual
  pub rows_inside : (t : Tree ℕ) → All Inside (rows_of t)
  rows_inside (node k cs) = (tt, rows_inside_in cs)
  rows_inside (token k x) = (tt, tt)

  rows_inside_in : (ts : Trees ℕ) → All Inside (rows_in ts)
  rows_inside_in nil = tt
  rows_inside_in (cons t ts) = All-append Inside (rows_of t) (rows_in ts) (rows_inside t) (rows_inside_in ts)
