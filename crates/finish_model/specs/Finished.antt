-- The result as the code has it: from the rows of all trees, the notes by their rows, and the changed rows.
-- Assumes nothing.
use mathlib.Core.List.{List, [], ◌∷◌, map, flat_map}
use Rattle.std.proofs.Math.Option
use Rattle.std.proofs.Math.Option.{Option}
use Rattle.std.specs.Prelude.{ℕ, ◌+◌, get_or}
use Rattle.orders.specs.Lists.{pick}
use Rattle.definition.specs.Basics.{rising}
use Rattle.definition.specs.Finishing.{Result}
use Rattle.rows_model.specs.Row.{Row, kind, measure, own, text_length}
use Rattle.rows_model.specs.Place.{rows_after, subtree, in_run}
use Rattle.run_model.specs.Store.{HeldNote, HeldChanged, Store, at_row}

-- ── Tree 0 ──────────────────────────────────────────────────────────────────────────────────────────────────

-- the rows of tree 0: its root stands behind the root of all
unfoldable pub first_tree : List Row → List Row
first_tree rs = subtree rs 1

-- the number in the new tree of the element at a row; none in another tree
unfoldable pub number_of : List Row → ℕ → Option ℕ
number_of rs row = in_run 1 (rows_after rs 1 1) row

-- where the text of each row starts, that of the first at s
unfoldable pub starts : ℕ → List Row → List ℕ
starts s [] = []
starts s (r ∷ rs) = s ∷ starts (s + text_length r) rs

-- where the text of an element of the new tree starts
unfoldable pub start_of : List Row → ℕ → ℕ
start_of rs e = get_or (starts 0 (first_tree rs)) e 0

-- ── The result ──────────────────────────────────────────────────────────────────────────────────────────────

-- the changed elements of the new tree, by text start, ties by time; the number of each stands for its row
unfoldable pub changed_numbers : Store → List HeldChanged
changed_numbers s = rising (λ c. start_of s.rows c.row ∷ []) (pick (λ c. Option.map (at_row c) (number_of s.rows c.row)) s.changed)

-- the notes in the new tree by number, queue place and text start, ties by time; each with its element
unfoldable pub note_numbers : Store → List (HeldNote × ℕ)
note_numbers s =
    rising (λ m. m.0.number ∷ m.0.place ∷ start_of s.rows m.1 ∷ []) (pick (λ n. Option.map (λ e. (n, e)) (number_of s.rows n.row)) s.notes)

-- the result, from the number of discarded changes, the climb steps, and what is held at the end
unfoldable pub result_of : ℕ → ℕ → Store → Result
result_of discarded climbs s = record {
  kinds = map kind (first_tree s.rows);
  measures = map measure (first_tree s.rows);
  changed = map (λ c. c.row) (changed_numbers s);
  rules = map (λ c. c.rule) (changed_numbers s);
  numbers = map (λ m. m.0.number) (note_numbers s);
  noted = map (λ m. m.1) (note_numbers s);
  text = flat_map own (first_tree s.rows);
  discarded = discarded;
  climbs = climbs;
}
