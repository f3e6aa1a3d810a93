-- The element table and the rows of a batch, as one walk of its elements writes them: an element's row is written when it is opened, as that
-- of an element without children, its text end and the element after its subtree anew when it is closed.
-- Assumes nothing.
use Rattle.std.specs.Prelude.{◌≡◌, List, [], ◌∷◌, ◌++◌, ℕ, zero, suc, ◌+◌, ◌*◌, length, set}
use Rattle.std.proofs.Math.Seq.{paste}
use Rattle.read_spelling.specs.Spelling.{children_of, length_of}
use Rattle.read_element_table.specs.declared.Open.{Open}

abbrev pub open_of : ℕ → ℕ → ℕ → Open
open_of left owner next = record { left = left; owner = owner; next = next }

-- The stack of open elements, the innermost first: how many children are to come, the element's number + 1 (0 for all the trees), the number of the next child.
-- Those to which no child is to come are closed:
unfoldable pub still_open : List Open → List Open
still_open [] = []
still_open (x ∷ s) = elim x.left [ zero ↦ still_open s | suc l ↦ x ∷ s ]

-- the words, with the text end and the element after the subtree of the element with this number + 1
unfoldable pub ended : ℕ → ℕ → ℕ → List ℕ → List ℕ
ended zero end after words = words
ended (suc e) end after words = set (set words (8 * e + 5) end) (8 * e + 6) after

unfoldable pub all_ended : List Open → ℕ → ℕ → List ℕ → List ℕ
unfolding ended
all_ended [] end after words = words
all_ended (x ∷ s) end after words = elim x.left [ zero ↦ all_ended s end after (ended x.owner end after words) | suc l ↦ words ]

-- what a root sets and the others keep: x below no open element, else y
unfoldable pub if_root : List Open → ℕ → ℕ → ℕ
if_root [] x y = x
if_root (f ∷ s) x y = y

-- element i with the text offset o, a child of the innermost open one; `at` is where its text starts in its own tree, unless it is a root, and t the number of that tree
unfoldable pub entered : List Open → ℕ → ℕ → ℕ → ℕ → List ℕ → ℕ × ℕ → (List Open → ℕ → ℕ → ℕ → List ℕ → List ℕ) → List ℕ
unfolding if_root
entered [] i o at t words e rest = words
entered (x ∷ s) i o at t words e rest =
    elim x.left [
      | zero ↦ words
      | suc l ↦ rest (open_of (children_of e.0 e.1) (i + 1) 0 ∷ open_of l x.owner (x.next + 1) ∷ s)
          (o + length_of e.0 e.1)
          (if_root s 0 at + length_of e.0 e.1)
          (if_root s x.next t)
          (words ++ (o ∷ x.owner ∷ x.next ∷ (length s + 1) ∷ if_root s 0 at ∷ (if_root s 0 at + length_of e.0 e.1) ∷ (i + 1) ∷ if_root s x.next t ∷ []))
    ]

-- the words of the table after the elements that are left
unfoldable pub table_from : List Open → ℕ → ℕ → ℕ → ℕ → List ℕ → List (ℕ × ℕ) → List ℕ
unfolding still_open all_ended entered
table_from s i o at t words [] = all_ended s at i words
table_from s i o at t words (e ∷ es) = entered (still_open s) i o at t (all_ended s at i words) e (λ s' o' at' t' words'. table_from s' (i + 1) o' at' t' words' es)

-- the table of elements that spell this number of trees
unfoldable pub table_of : ℕ → List (ℕ × ℕ) → List ℕ
table_of trees es = table_from (open_of trees 0 0 ∷ []) 0 0 0 0 [] es

-- the rows of elements, the first text offset o
unfoldable pub rows_from : ℕ → List (ℕ × ℕ) → List ℕ
rows_from o [] = []
rows_from o (e ∷ es) = e.0 ∷ e.1 ∷ o ∷ rows_from (o + length_of e.0 e.1) es

-- and before them that of the node above all trees, which is no element
unfoldable pub source_of : ℕ → List (ℕ × ℕ) → List ℕ
source_of trees es = 2147483648 ∷ trees ∷ 0 ∷ rows_from 0 es

-- THE PROMISE of the fill: the front of each slice is written, and nothing beyond it
pub record Filled (trees n : ℕ) (es : List (ℕ × ℕ)) (table₀ source₀ table source : List ℕ) : Type 0 where
  pub words : table ≡ paste table₀ 0 (table_of trees es) (8 * n)
  pub rows : source ≡ paste source₀ 0 (source_of trees es) (3 * (n + 1))
