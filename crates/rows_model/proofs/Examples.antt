-- The definitions compute: S is root(X(a), b) with one-letter tokens, the only tree under the root of all.
-- Assumes nothing.
use Rattle.std.specs.Prelude.{◌≡◌, refl, List, [], ◌∷◌, ℕ}
use Rattle.std.proofs.Math.Option.{none, some, bind}
use Rattle.orders.specs.Tree.{Tree, node, token, nil, cons, list, forest, zone, shift, modify, splice}
use Rattle.rows_model.specs.Row.{tok, nod, rows_of, triples, trees_in, bytes, height_in, height}
use Rattle.rows_model.specs.Place.{place, rows_after, child_row, between, subtree, follow, splice_rows, moved_mark}

abbrev S : Tree ℕ
S = node 0x8000_0000 (cons (node 0x8000_0001 (cons (node 0x8000_0005 (cons (token 2 (97 ∷ [])) nil)) (cons (token 3 (98 ∷ [])) nil))) nil)

abbrev words : List ℕ
words = 0x8000_0000 ∷ 1 ∷ 0 ∷ 0x8000_0001 ∷ 2 ∷ 0 ∷ 0x8000_0005 ∷ 1 ∷ 0 ∷ 2 ∷ 1 ∷ 0 ∷ 3 ∷ 1 ∷ 1 ∷ []

told : triples (97 ∷ 98 ∷ []) words ≡ rows_of S
unfolding list
told = refl

b_at : place (0 ∷ 1 ∷ []) S ≡ 4
unfolding list
b_at = refl

X-is : subtree (rows_of S) 2 ≡ nod 0x8000_0005 1 ∷ tok 2 (97 ∷ []) ∷ []
unfolding subtree list
X-is = refl

-- c after X: the root has three children, and b stands one row further on
c_after_X : splice_rows (rows_of S) 1 4 4 0 (tok 4 (99 ∷ []) ∷ []) 1 ≡ rows_of (splice (0 ∷ []) 1 1 (token 4 (99 ∷ []) ∷ []) S)
unfolding splice_rows splice modify list forest
c_after_X = refl

b_moves : moved_mark 4 4 1 4 ≡ 5
unfolding moved_mark shift zone
b_moves = refl

-- the root replaced by R(c): nothing of S is left
root_replaced : splice_rows (rows_of S) 0 1 5 1 (nod 0x8000_0006 1 ∷ tok 4 (99 ∷ []) ∷ []) 1 ≡ rows_of (splice [] 0 1 (node 0x8000_0006 (cons (token 4 (99 ∷ [])) nil) ∷ []) S)
unfolding splice_rows splice modify list forest
root_replaced = refl

b_goes : moved_mark 1 5 2 4 ≡ 0
unfolding moved_mark shift zone
b_goes = refl

-- what is below the root: X(a) and b
two_trees : trees_in (between 2 5 (rows_of S)) ≡ 2
unfolding between list
two_trees = refl

two_bytes : bytes (rows_of S) ≡ 2
unfolding list
two_bytes = refl

two_deep : height (between 2 5 (rows_of S)) ≡ 2
unfolding between height_in list
two_deep = refl

b_found : follow (rows_of S) 0 (0 ∷ 1 ∷ []) ≡ some 4
unfolding follow child_row rows_after bind list
b_found = refl

no_child : follow (rows_of S) 0 (0 ∷ 2 ∷ []) ≡ none
unfolding follow child_row rows_after bind list
no_child = refl
