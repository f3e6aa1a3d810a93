-- What is read of the element table and of the rows, from the words.
-- Assumes nothing.
use mathlib.Core.Path.{◌≡◌, ap, ◌∙◌}
use mathlib.Core.List.{List, []}
use mathlib.Core.Logic.{inl, inr}
use Prim.Native.Nat.{ℕ, suc, ◌+◌, ◌*◌}
use native.Mathlib.Omega.{arith}
use native.Mathlib.Numerals.{add-one}
use lib.ListN.{get_or}
use lib.Dec.{eqb, leb}
use borrow.Author.Tests.{lt-leb, le-leb}
use Rattle.orders.specs.ListLaws.{lt_or_le}
use Rattle.definition.specs.Elements.{is_node}
use Rattle.rows_model.specs.Row.{owes}
use Rattle.rows_model.proofs.Words.{node_row, token_owes}
use Rattle.rows_syntax_node.specs.Promises.{Counted}
use Rattle.read_element_table.specs.Told.{child_count}

-- element e stands at row e + 1
pub row_at_lem : (s : List ℕ) (e k v : ℕ) → v ≡ get_or s (3 * e + 3 + k) 0 → v ≡ get_or s (3 * suc e + k) 0
row_at_lem s e k v h = h ∙ ap (λ (i : ℕ). get_or s i 0) (omega arith)

pub kind_at : (s : List ℕ) (e v : ℕ) → v ≡ get_or s (3 * suc e + 0) 0 → leb 2147483648 v ≡ is_node (get_or s (3 * suc e) 0)
unfolding is_node
kind_at s e v h = ap (leb 2147483648) (h ∙ ap (λ (i : ℕ). get_or s i 0) (omega arith))

pub root_at : (w : List ℕ) (e v : ℕ) → v ≡ get_or w (8 * e + 1) 0 → eqb v 0 ≡ eqb (get_or w (8 * e + 1) 0) 0
root_at w e v h = ap (λ (k : ℕ). eqb k 0) h

-- the children that its row counts
pub counted : (s : List ℕ) (e r : ℕ) → Counted s (e + 1) r → r ≡ child_count s e
unfolding child_count is_node
counted s e r v =
    v.count []
    ∙ rw (add-one e) (elim (lt_or_le (get_or s (3 * suc e) 0) 2147483648) [ inl h ↦ rw (lt-leb 2147483648 _ h) (token_owes [] _ _ _ h) | inr h ↦ rw (le-leb 2147483648 _ h) (ap owes (node_row [] _ _ _ h)) ])
