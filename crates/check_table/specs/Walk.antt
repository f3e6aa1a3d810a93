-- The words of a tree's elements, as one walk of kind words and measures writes them.
-- Assumes nothing.
use Rattle.std.specs.Prelude.{◌≡◌, Bool, true, ℕ, zero, suc, ◌+◌, ◌*◌, length, take}
use mathlib.Core.List.{List, [], ◌∷◌, tail, head_d}
use Rattle.read_spelling.specs.Spelling.{children_of, length_of, accepts}

-- Two stacks, of the open elements, the innermost first: how many children are to come; number + 1 (0 for what is above the tree).
-- Those to which no child is to come are closed; the next element is a child of the one then on top:
unfoldable pub opening : List ℕ → List ℕ → (ℕ → List ℕ → List ℕ → List ℕ) → List ℕ
opening [] owners rest = []
opening (zero ∷ left) owners rest = opening left (tail owners) rest
opening (suc l ∷ left) owners rest = rest l left owners

-- the words of the elements that are left, the first of them element i, with o bytes of text before it
unfoldable pub words_from : List ℕ → List ℕ → ℕ → ℕ → List (ℕ × ℕ) → List ℕ
unfolding opening
words_from left owners i o [] = []
words_from left owners i o (e ∷ es) =
    opening left owners (λ l left' owners'.
    e.0 ∷ o ∷ (o + length_of e.0 e.1) ∷ head_d owners' 0 ∷ words_from (children_of e.0 e.1 ∷ l ∷ left') ((i + 1) ∷ owners') (i + 1) (o + length_of e.0 e.1) es)

-- of all elements of one tree
unfoldable pub words_of : List (ℕ × ℕ) → List ℕ
words_of es = words_from (1 ∷ []) (0 ∷ []) 0 0 es

-- THE PROMISE of `read_tree`: the verdict, and the words where it accepts
pub record Reads (es : List (ℕ × ℕ)) (bytes : ℕ) (r : Bool) (table : List ℕ) : Type 0 where
  pub verdict : r ≡ accepts 1 bytes es
  pub words : r ≡ true → take (4 * length es) table ≡ words_of es
