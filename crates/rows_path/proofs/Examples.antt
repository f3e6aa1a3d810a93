-- The definitions compute: root(X(ab), c, Y(de)), tokens with their letters. The last token is element 5 and starts at byte 3; it ends at 5.
-- Assumes nothing.
use Rattle.std.specs.Prelude.{◌≡◌, refl, [], ◌∷◌, ℕ, None}
use Rattle.std.proofs.Math.Option.{bind}
use Rattle.orders.specs.Tree.{Tree, node, token, nil, cons, list, forest, text_of, resolve}
use Rattle.rows_path.specs.Offset.{offset}
use Rattle.rows_path.specs.Promises.{standing, at_row}

abbrev R : Tree ℕ
R = node 0x8000_0001 (cons (node 0x8000_0002 (cons (token 3 (97 ∷ 98 ∷ [])) nil)) (cons (token 4 (99 ∷ [])) (cons (node 0x8000_0005 (cons (token 6 (100 ∷ 101 ∷ [])) nil)) nil)))

last_stands : standing (2 ∷ 0 ∷ []) R (resolve (2 ∷ 0 ∷ []) R) ≡ at_row 5 3
unfolding standing offset resolve bind list forest text_of
last_stands = refl

none_stands : standing (1 ∷ 0 ∷ []) R (resolve (1 ∷ 0 ∷ []) R) ≡ None
unfolding standing offset resolve bind list forest text_of
none_stands = refl
