-- `find_element` on the rows of the new tree: the first node with a kind word and a text start.
-- Assumes nothing.
use Rattle.std.specs.Prelude.{Bool, ◌&&◌, ℕ, suc, ◌+◌, eqb}
use Rattle.std.proofs.Math.Bool.{cond}
use mathlib.Core.List.{List, [], ◌∷◌}
use Rattle.std.proofs.Math.Option.{Option, none, some}
use Rattle.definition.specs.Elements.{is_node}
use Rattle.rows_model.specs.Row.{Row, kind, text_length}

-- a kind word is a node's, and it and a text start are those looked for
unfoldable pub alike_words : ℕ → ℕ → ℕ → ℕ → Bool
alike_words k start word s = is_node word && eqb word k && eqb s start

-- the number of the first node with the kind word k and the text start `start`, where the first row has number e and its text starts at s
unfoldable pub alike_from : ℕ → ℕ → ℕ → ℕ → List Row → Option ℕ
alike_from k start e s [] = none
alike_from k start e s (r ∷ rs) = let later = alike_from k start (suc e) (s + text_length r) rs in cond (alike_words k start (kind r) s) (some e) later

-- in the rows of a tree
unfoldable pub find_row : List Row → ℕ → ℕ → Option ℕ
find_row rs k start = alike_from k start 0 0 rs
