-- Trees as rows in preorder, and rows as words.
-- Assumes nothing.
use Rattle.std.specs.Prelude.{cond, List, [], ◌∷◌, ◌++◌, ℕ, zero, suc, ◌+◌, ◌*◌, max, length, take, drop, get_or, ltb, leb}
use Rattle.orders.specs.Tree.{Tree, Trees, node, token, nil, cons, list}

-- ── Rows ────────────────────────────────────────────────────────────────────────────────────────────────────

pub data Row : Type 0 where
  -- a token: its kind word and its text
  tok : ℕ → List ℕ → Row
  -- a node: its kind word and its number of children
  nod : ℕ → ℕ → Row
  -- words that tell of no element: a token's kind word and a length, where that much text is not there
  outside : ℕ → ℕ → Row

-- what the arrays hold of a row
abbrev pub kind : Row → ℕ
kind (tok k x) = k
kind (nod k m) = k
kind (outside k m) = k

abbrev pub measure : Row → ℕ
measure (tok k x) = length x
measure (nod k m) = m
measure (outside k m) = m

-- the text that it adds
abbrev pub own : Row → List ℕ
own (tok k x) = x
own (nod k m) = []
own (outside k m) = []

-- the length of that text, by the words
abbrev pub text_length : Row → ℕ
text_length (tok k x) = length x
text_length (nod k m) = 0
text_length (outside k m) = m

-- the number of children that follow
abbrev pub owes : Row → ℕ
owes (tok k x) = 0
owes (nod k m) = m
owes (outside k m) = 0

-- ── The rows of trees ───────────────────────────────────────────────────────────────────────────────────────

-- an element without what is below it
abbrev pub row_of : Tree ℕ → Row
row_of (node k cs) = nod k (length (list cs))
row_of (token k x) = tok k x

-- the elements of a tree, in preorder
abbrev mutual
  pub rows_of : Tree ℕ → List Row
  rows_of (node k cs) = nod k (length (list cs)) ∷ rows_in cs
  rows_of (token k x) = tok k x ∷ []

  pub rows_in : Trees ℕ → List Row
  rows_in nil = []
  rows_in (cons t ts) = rows_of t ++ rows_in ts

-- those of a list of trees
abbrev pub rows_all : List (Tree ℕ) → List Row
rows_all [] = []
rows_all (t ∷ ts) = rows_of t ++ rows_all ts

-- ── Rows as words ───────────────────────────────────────────────────────────────────────────────────────────

-- The row that three words tell: the kind word, the measure, and where the token's text starts in the text of all. A kind word with bit 31 is a node's
abbrev pub row_at : List ℕ → ℕ → ℕ → ℕ → Row
row_at text k m o = cond (ltb k 2147483648) (cond (leb (o + m) (length text)) (tok k (take m (drop o text))) (outside k m)) (nod k m)

-- the rows that words tell, three for each
abbrev pub triples : List ℕ → List ℕ → List Row
triples text [] = []
triples text (k ∷ []) = []
triples text (k ∷ m ∷ []) = []
triples text (k ∷ m ∷ o ∷ ws) = row_at text k m o ∷ triples text ws

-- the first n of them
abbrev pub first_rows : List ℕ → ℕ → List ℕ → List Row
first_rows text n ws = triples text (take (3 * n) ws)

-- the row that stands at i
abbrev pub row_in : List ℕ → List ℕ → ℕ → Row
row_in text ws i = row_at text (get_or ws (3 * i) 0) (get_or ws (3 * i + 1) 0) (get_or ws (3 * i + 2) 0)

-- ── What rows tell ──────────────────────────────────────────────────────────────────────────────────────────

-- the number of rows of the next `owed` trees: each row is one element owed less, and a node's row owes its children
abbrev pub skip : ℕ → List Row → ℕ
skip owed [] = 0
skip zero (r ∷ rs) = 0
skip (suc owed) (r ∷ rs) = suc (skip (owed + owes r) rs)

-- the number of trees that begin, where so many elements of the one before are still owed
abbrev pub trees_from : ℕ → List Row → ℕ
trees_from owed [] = 0
trees_from zero (r ∷ rs) = suc (trees_from (owes r) rs)
trees_from (suc owed) (r ∷ rs) = trees_from (owed + owes r) rs

-- the number of trees
abbrev pub trees_in : List Row → ℕ
trees_in rs = trees_from 0 rs

-- the length of the text
abbrev pub bytes : List Row → ℕ
bytes [] = 0
bytes (r ∷ rs) = text_length r + bytes rs

-- the nodes that are open, from the innermost, each told by the children that it still owes: what is left of them as one more child begins
abbrev pub opened : List ℕ → List ℕ
opened [] = []
opened (zero ∷ above) = opened above
opened (suc owed ∷ above) = owed ∷ above

-- the greatest depth, where those nodes are open
unfoldable pub height_in : List ℕ → List Row → ℕ
height_in above [] = 0
height_in above (r ∷ rs) = max (suc (length (opened above))) (height_in (owes r ∷ opened above) rs)

-- the greatest depth of trees
abbrev pub height : List Row → ℕ
height rs = height_in [] rs
