-- Line 5, element by element: a machine that reads kind words and measures from the first to the last and holds a stack of counts.
-- Assumes nothing.
use Rattle.std.specs.Prelude.{Bool, true, false, cond, not, ◌&&◌, ◌||◌, ℕ, zero, suc, ◌+◌, length, drop, leb, ltb, eqb}
use mathlib.Core.List.{List, [], ◌∷◌, zip}
use Rattle.definition.specs.Words.{words}
use Rattle.definition.specs.Elements.{is_node, malformed}

-- the n elements of a batch whose kind words and measures stand at these bytes: kind word and measure of each
unfoldable pub elements_at : List ℕ → ℕ → ℕ → ℕ → List (ℕ × ℕ)
elements_at b kinds measures n = zip (words n (drop kinds b)) (words n (drop measures b))

-- "A node's measure is its count of direct children, a token's its text length": the children, and the text, of an element alone
unfoldable pub children_of : ℕ → ℕ → ℕ
children_of kind measure = cond (is_node kind) measure 0

unfoldable pub length_of : ℕ → ℕ → ℕ
length_of kind measure = cond (is_node kind) 0 measure

-- an element with this kind word may stand at this depth: the word has its form, the depth is at most 64, a root is a node
unfoldable pub stands : ℕ → ℕ → Bool
stands kind depth = not (malformed kind) && (leb depth 64 && (is_node kind || ltb 1 depth))

-- A stack says how many children are still to come, of the innermost open element first; its last number is of trees.
-- The elements to which no child is to come are closed:
unfoldable pub settled : List ℕ → List ℕ
settled [] = []
settled (zero ∷ s) = settled s
settled (suc l ∷ s) = suc l ∷ s

unfoldable pub none_open : List ℕ → Bool
none_open [] = true
none_open (l ∷ s) = false

-- the next element is a child of the innermost open one, and is opened itself; `sum` is the length of the text before it
unfoldable pub opened : List ℕ → ℕ → ℕ × ℕ → (List ℕ → ℕ → Bool) → Bool
opened [] sum e rest = false
opened (zero ∷ s) sum e rest = false
opened (suc l ∷ s) sum e rest = stands e.0 (suc (length s)) && rest (children_of e.0 e.1 ∷ l ∷ s) (sum + length_of e.0 e.1)

-- the elements that are left fill the stack, and the text has this length in all
unfoldable pub fills : ℕ → List ℕ → ℕ → List (ℕ × ℕ) → Bool
unfolding settled none_open opened
fills bytes s sum [] = none_open (settled s) && eqb sum bytes
fills bytes s sum (e ∷ es) = opened (settled s) sum e (λ s' sum'. fills bytes s' sum' es)

-- line 5: the elements, each with kind word and measure, spell this number of trees with this length of text
unfoldable pub accepts : ℕ → ℕ → List (ℕ × ℕ) → Bool
accepts trees bytes es = fills bytes (trees ∷ []) 0 es
