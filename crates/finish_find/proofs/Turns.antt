-- Looking for the first node alike: a turn of the loop, and each way out.
-- Assumes nothing.
use mathlib.Core.Path.{◌≡◌, refl, sym, ap, ◌∙◌}
use mathlib.Core.Bool.{Bool, true, false}
use mathlib.Core.List.{List, ◌∷◌}
use Prim.Native.Nat.{ℕ, zero, suc, ◌+◌, ◌-◌, ◌*◌, ◌^◌, ◌≤◌, ◌<◌}
use native.Mathlib.Omega.{arith}
use native.Mathlib.Numerals.{add-one}
use lib.ListN.{length, get_or, take, drop}
use borrow.Author.Tests.{lt-leb}
use Rattle.std.specs.Prelude.{Some, None}
use Rattle.definition.specs.Elements.{is_node}
use Rattle.rows_model.specs.Row.{Row, kind, owes, skip, row_in, first_rows}
use Rattle.rows_model.specs.Place.{subtree}
use Rattle.rows_model.proofs.RowLaws.{skip_none}
use Rattle.rows_model.proofs.Words.{kind_word, first_at, first_end}
use Rattle.rows_syntax_node.specs.Promises.{Counted, Measured}
use Rattle.rows_syntax_node.proofs.Turns.{count_token, length_node}
use Rattle.finish_model.specs.Finished.{first_tree}
use Rattle.finish_model.specs.Alike.{alike_words, alike_from, find_row}
use Rattle.finish_find.specs.Found.{found}

-- ── The loop ────────────────────────────────────────────────────────────────────────────────────────────────

-- the rows of the next trees, the first row apart
part_cons : (o : ℕ) (l l' : List Row) (r : Row) → l ≡ r ∷ l' → 0 < o → take (skip o l) l ≡ r ∷ take (skip (o - 1 + owes r) l') l'
part_cons zero l l' r e h = absurd (omega arith)
part_cons (suc o) l l' r e h = let q : suc o - 1 ≡ o = omega arith in rw (e, q)

-- none of the rows from row 1 up to row i is alike, their text is `sum` long, and `owed` more elements end the tree
pub record Finding (rows : List ℕ) (n k start sum owed i : ℕ) : Type 0 where
  pub low : 1 ≤ i
  pub high : i ≤ n
  pub small : sum ≤ 2 ^ 32 * i
  pub few : owed ≤ 2 ^ 32 * i
  pub rest : (text : List ℕ) → find_row (first_tree (first_rows text n rows)) k start ≡ alike_from k start (i - 1) sum (take (skip owed (drop i (first_rows text n rows))) (drop i (first_rows text n rows)))

pub finding_start : {rows : List ℕ} {n k start : ℕ} → 1 ≤ n → Finding rows n k start 0 1 1
unfolding find_row first_tree subtree
finding_start h = record { low = omega arith; high = h; small = omega arith; few = omega arith; rest = λ text. refl }

-- nothing is owed
nowhere : {rows : List ℕ} {n k start sum owed i : ℕ} → Finding rows n k start sum owed i → owed ≡ 0 → (text : List ℕ) → None ≡ found (find_row (first_tree (first_rows text n rows)) k start)
unfolding found alike_from
nowhere {rows} {n} {i = i} v z text = rw (v.rest text, z, skip_none (drop i (first_rows text n rows)))

module _ {rows : List ℕ} {n k start sum owed i : ℕ} (v : Finding rows n k start sum owed i) (long : 3 * n ≤ length rows) where
  module _ {w : ℕ} (o : 0 < owed) (h : i < n) (e : (w ≡ get_or rows (3 * i) 0) × (w < 2 ^ 32)) where
    tested : (text : List ℕ) → alike_words k start (kind (row_in text rows i)) sum ≡ alike_words k start w sum
    tested text = ap (λ x. alike_words k start x sum) (kind_word text (get_or rows (3 * i) 0) (get_or rows (3 * i + 1) 0) (get_or rows (3 * i + 2) 0) ∙ sym e.0)

    -- the row at hand, and those behind it
    parted : (text : List ℕ) → take (skip owed (drop i (first_rows text n rows))) (drop i (first_rows text n rows))
        ≡ row_in text rows i ∷ take (skip (owed - 1 + owes (row_in text rows i)) (drop (suc i) (first_rows text n rows))) (drop (suc i) (first_rows text n rows))
    parted text = part_cons owed (drop i (first_rows text n rows)) (drop (suc i) (first_rows text n rows)) (row_in text rows i) (first_at text n rows long i h) o

    pub found_here : {b : Bool} → b ≡ alike_words k start w sum → b ≡ true → (text : List ℕ) → Some (i - 1) ≡ found (find_row (first_tree (first_rows text n rows)) k start)
    unfolding found alike_from
    found_here t y text = rw (v.rest text, parted text, tested text, ← t, y)

    -- a row that is not alike
    passed : {m r s q : ℕ} → alike_words k start w sum ≡ false → Counted rows i m → Measured rows i r → s ≡ sum + r → q ≡ owed + m → Finding rows n k start s (q - 1) (i + 1)
    unfolding alike_from
    passed {m} {q = q} y c d f g =
        let z : i + 1 - 1 ≡ suc (i - 1) = omega (arith, v.low) in
        let p : q - 1 ≡ owed - 1 + m = omega (arith, o) in
        record {
          low = omega (arith, v.low);
          high = omega arith;
          small = omega (arith, v.small, d.small);
          few = omega (arith, v.few, c.small);
          rest = λ text. v.rest text ∙ rw (f, p, parted text, tested text, y, z, add-one i, d.own text, c.count text);
        }

    -- a token, and a node that is not alike: the tree goes on, or ends with it
    pub token_passed : {r s q : ℕ} → w < 2147483648 → Measured rows i r → s ≡ sum + r → q ≡ owed → Finding rows n k start s (q - 1) (i + 1)
    unfolding alike_words is_node
    token_passed y d f g = passed (rw (lt-leb 2147483648 w y)) (count_token rows i e y) d f (omega arith)

    pub node_passed : {b : Bool} {m s q : ℕ} → 2147483648 ≤ w → b ≡ alike_words k start w sum → b ≡ false → Counted rows i m → s ≡ sum → q ≡ owed + m → Finding rows n k start s (q - 1) (i + 1)
    node_passed x t y c f g = passed (sym t ∙ y) c (length_node rows i e x) (omega arith) g

    pub last_token : {r s q : ℕ} → w < 2147483648 → Measured rows i r → s ≡ sum + r → q ≡ owed → q - 1 ≡ 0 → (text : List ℕ) → None ≡ found (find_row (first_tree (first_rows text n rows)) k start)
    last_token y d f g z = nowhere (token_passed y d f g) z

    pub last_node : {b : Bool} {m s q : ℕ} → 2147483648 ≤ w → b ≡ alike_words k start w sum → b ≡ false → Counted rows i m → s ≡ sum → q ≡ owed + m → q - 1 ≡ 0 → (text : List ℕ) → None ≡ found (find_row (first_tree (first_rows text n rows)) k start)
    last_node x t y c f g z = nowhere (node_passed x t y c f g) z

  pub found_out : n ≤ i → (text : List ℕ) → None ≡ found (find_row (first_tree (first_rows text n rows)) k start)
  unfolding found alike_from
  found_out h text = rw (v.rest text, first_end text n rows long i h)
