-- The length of the text of rows: by their words, whatever the text of all; and by what is there of it.
-- Assumes nothing.
use Rattle.std.specs.Prelude.{◌≡◌, refl, ◌⊎◌, ℕ, ◌+◌, ◌≤◌, ◌<◌, length, take, drop}
use Rattle.std.proofs.Common.{sym, ap, ◌∙◌, inl, inr, arith, length-append, take-append-drop}
use mathlib.Core.List.{List, [], ◌∷◌, flat_map}
use Rattle.orders.specs.ListLaws.{lt_or_le}
use Rattle.rows_model.specs.Row.{Row, tok, nod, outside, own, text_length, row_at, triples, bytes}
use Rattle.rows_model.proofs.RowLaws.{bytes_append}
use Rattle.rows_model.proofs.Words.{node_row, token_length}

row_any : (t u : List ℕ) (k m o : ℕ) → text_length (row_at t k m o) ≡ text_length (row_at u k m o)
row_any t u k m o = go (lt_or_le k 2147483648)
  where
    go : (k < 2147483648) ⊎ (2147483648 ≤ k) → text_length (row_at t k m o) ≡ text_length (row_at u k m o)
    go (inl h) = token_length t k m o h ∙ sym (token_length u k m o h)
    go (inr h) = ap text_length (node_row t k m o h) ∙ sym (ap text_length (node_row u k m o h))

-- the text of all plays no part
pub bytes_any : (t u l : List ℕ) → bytes (triples t l) ≡ bytes (triples u l)
bytes_any t u [] = refl
bytes_any t u (k ∷ []) = refl
bytes_any t u (k ∷ m ∷ []) = refl
bytes_any t u (k ∷ m ∷ o ∷ l) = omega (arith, row_any t u k m o, bytes_any t u l)

-- no more is there than the words say
pub own_few : (rs : List Row) → length (flat_map own rs) ≤ bytes rs
unfolding flat_map
own_few [] = omega arith
own_few (tok k x ∷ rs) = simp length-append (omega (arith, own_few rs))
own_few (nod k m ∷ rs) = omega (arith, own_few rs)
own_few (outside k m ∷ rs) = omega (arith, own_few rs)

-- a part of some rows has no more text than they have
pub bytes_part : (a n : ℕ) (rs : List Row) → bytes (take n (drop a rs)) ≤ bytes rs
bytes_part a n rs =
    let e : bytes rs ≡ bytes (take a rs) + bytes (drop a rs) = ap bytes (sym (take-append-drop a rs)) ∙ bytes_append (take a rs) (drop a rs) in
    let f : bytes (drop a rs) ≡ bytes (take n (drop a rs)) + bytes (drop n (drop a rs)) = ap bytes (sym (take-append-drop n (drop a rs))) ∙ bytes_append (take n (drop a rs)) (drop n (drop a rs)) in
    omega arith
