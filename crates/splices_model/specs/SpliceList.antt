-- WHAT A LIST OF SPLICES LEAVES, from the words that are lent alone: the old tree is read from its rows, each splice ("a number, a parent node and a run a..b of its children, both told as places
-- in the old tree, and a prepared list of subtrees") from its six words; the tree is rewritten in one go, "a single walk of the old tree", and written back as words; or the first refusal.
-- Assumes nothing.
use Rattle.std.specs.Prelude.{Bool, true, cond, not, ◌&&◌, List, [], ◌∷◌, ◌++◌, map, ℕ, zero, suc, ◌+◌, ◌-◌, ◌*◌, ◌/◌, length, take, drop, get_or, replicate, leb, ltb}
use Rattle.orders.specs.Tree.{Tree, node, token, forest}
use Rattle.orders.specs.Splices.{Splice, one_go}
use Rattle.orders.proofs.Paths.{one_go_path}
use Rattle.orders.proofs.Check.{pairs, fits?, apart?}
use Rattle.definition.specs.Basics.{Answer, gives, ◌>>=◌, refuse}
use Rattle.rows_model.specs.Row.{Row, tok, nod, outside, rows_of}
use Rattle.rows_model.specs.Place.{size, mark_of}
use Rattle.splices_model.specs.Cuts.{part_at, paths}
use Rattle.definition_laws.specs.Basics.{up_from}
use Rattle.splices_model.specs.Bounds.{rows_to}
use Rattle.splices_model.specs.Verdict.{closed, tree_rows, limited, roomy}

-- ── Words as trees, and trees as words ──────────────────────────────────────────────────────────────────────

-- the row that three words tell: a kind word with bit 31 is a node's. The text itself is not lent: a token's text is told as the places where it stands in it
abbrev pub row_told : ℕ → ℕ → ℕ → Row
row_told k m o = cond (ltb k 2147483648) (tok k (up_from o m)) (nod k m)

-- the rows that words tell, three for each
abbrev pub rows_told : List ℕ → List Row
rows_told [] = []
rows_told (k ∷ []) = []
rows_told (k ∷ m ∷ []) = []
rows_told (k ∷ m ∷ o ∷ l) = row_told k m o ∷ rows_told l

-- a row with the trees behind it: a node takes as many of them as it has children
abbrev pub grow : Row → List (Tree ℕ) → List (Tree ℕ)
grow (tok k x) ts = token k x ∷ ts
grow (nod k m) ts = node k (forest (take m ts)) ∷ drop m ts
grow (outside k m) ts = token k [] ∷ ts

-- the trees of rows, read from the last row to the first
unfoldable pub trees_of : List Row → List (Tree ℕ)
trees_of [] = []
trees_of (r ∷ rs) = grow r (trees_of rs)

-- the tree that the first e rows tell
unfoldable pub old_tree : List ℕ → ℕ → Tree ℕ
old_tree rows e = get_or (trees_of (rows_told (take (3 * e) rows))) 0 (token 0 [])

-- rows in words, three for each: kind word, measure, where the text starts, which is 0 for a node and for a token without text
unfoldable pub words_of : List Row → List ℕ
words_of [] = []
words_of (tok k x ∷ rs) = k ∷ length x ∷ get_or x 0 0 ∷ words_of rs
words_of (nod k m ∷ rs) = k ∷ m ∷ 0 ∷ words_of rs
words_of (outside k m ∷ rs) = k ∷ m ∷ 0 ∷ words_of rs

-- ── Words as splices ────────────────────────────────────────────────────────────────────────────────────────

-- splice i of the old tree, by its six words: number, row of its parent, from, to, where its prepared rows start, how many they are
unfoldable pub splice_at : Tree ℕ → List ℕ → List ℕ → ℕ → Splice ℕ
splice_at old splices prepared i = record {
  number = get_or splices (6 * i) 0;
  parent = get_or (paths old) (get_or splices (6 * i + 1) 0) [];
  from = get_or splices (6 * i + 2) 0;
  to = get_or splices (6 * i + 3) 0;
  prepared = trees_of (rows_told (part_at splices prepared i));
}

-- the first k splices, the last first (one go asks for no order)
unfoldable pub splices_to : Tree ℕ → List ℕ → List ℕ → ℕ → List (Splice ℕ)
splices_to old splices prepared zero = []
splices_to old splices prepared (suc k) = splice_at old splices prepared k ∷ splices_to old splices prepared k

-- the words of splice i tell one: its parent is one of the e rows, and its prepared rows lie in the slice and are those of whole trees
unfoldable pub tells_at : ℕ → List ℕ → List ℕ → ℕ → Bool
tells_at e splices prepared i =
    ltb (get_or splices (6 * i + 1) 0) e
    && (leb (3 * get_or splices (6 * i + 4) 0 + 3 * get_or splices (6 * i + 5) 0) (length prepared) && closed (rows_told (part_at splices prepared i)))

-- and that one fits the old tree
unfoldable pub suits_at : Tree ℕ → ℕ → List ℕ → List ℕ → ℕ → Bool
suits_at old e splices prepared i = tells_at e splices prepared i && fits? old (splice_at old splices prepared i)

-- each of the first k does
unfoldable pub suits_to : Tree ℕ → ℕ → List ℕ → List ℕ → ℕ → Bool
suits_to old e splices prepared zero = true
suits_to old e splices prepared (suc k) = suits_at old e splices prepared k && suits_to old e splices prepared k

-- ── The answer ──────────────────────────────────────────────────────────────────────────────────────────────

-- what is left: the rows slice, the marks, and the number of rows of the new tree
pub record Left : Type 0 where
  pub rows : List ℕ
  pub marks : List ℕ
  pub many : ℕ

-- a slice that begins with these words, then zeros up to `used`, then what it held
unfoldable pub filled : List ℕ → ℕ → List ℕ → List ℕ
filled words used held = words ++ (replicate (used - length words) 0 ++ drop used held)

-- the one-go tree in words, zeros behind it as far as the list could use rows; and for each old element the row where the one go writes it, 0 where it is deleted
unfoldable pub rewritten : List ℕ → Tree ℕ → List (Splice ℕ) → ℕ → Left
rewritten rows old S used = record {
  rows = filled (words_of (rows_of (one_go S old))) used rows;
  marks = map (λ p. mark_of (one_go S old) (one_go_path S p)) (paths old);
  many = size (one_go S old);
}

-- A LIST OF SPLICES of the old tree that the first rows tell, one for each mark
unfoldable pub splice_list : List ℕ → List ℕ → List ℕ → List ℕ → Answer Left
splice_list rows marks splices prepared = do
  let e = length marks
  let c = length splices / 6
  -- 1: a slice is beyond its limit, or the splices' words are not six for each
  _ ← refuse 1 (not (limited e splices prepared c))
  -- 2: there is no room for the old rows with all that come in
  _ ← refuse 2 (not (roomy (length rows) e splices c))
  -- 3: the rows are not those of one tree
  _ ← refuse 3 (not (tree_rows (rows_told (take (3 * e) rows))))
  let old = old_tree rows e
  -- 4: a splice does not fit the tree
  _ ← refuse 4 (not (suits_to old e splices prepared c))
  let S = splices_to old splices prepared c
  -- 5: two splices are not apart
  _ ← refuse 5 (not (pairs apart? S))
  gives (rewritten rows old S (3 * (e + rows_to splices c)))
