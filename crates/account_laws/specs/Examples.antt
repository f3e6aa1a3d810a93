-- The account of batches that are written out, by computation.
-- Assumes nothing.
use Rattle.std.specs.Prelude.{◌≡◌, refl, List, [], ◌∷◌, map, ℕ, length}
use Rattle.std.proofs.Math.Option.{Option, none, some}
use Rattle.definition.specs.Basics.{Answer, gives, ◌>>=◌}
use Rattle.definition.specs.Choices.{by_default}
use Rattle.definition.specs.Refusals.{Call, accepted}
use Rattle.definition.specs.Planning.{overlap, Fate, own, dependent, discarded, fates}
use Rattle.definition.specs.Computing.{computed}
use Rattle.definition.specs.Examples.{Told, in_lists, in_bytes, node_of, token_of, call}
use Rattle.definition_laws.specs.Basics.{up_from}
use Rattle.account_laws.specs.Words.{last_below, every_below, spares, owns, owner}
use Rattle.definition_laws.specs.Plans.{changes}

-- calls on root(X(Y(a)), b) beside trees W(c) and R(V(d)), X mapped to V: X is 1, Y 2, a 3, b 4; W is 5, c 6; R 7, V 8, d 9
abbrev on_xy : List Call → Told
on_xy calls = record {
  trees = node_of 1 (node_of 2 (node_of 3 (token_of 4 "a" ∷ []) ∷ []) ∷ token_of 5 "b" ∷ []) ∷ node_of 6 (token_of 5 "c" ∷ []) ∷ node_of 7 (node_of 2 (token_of 4 "d" ∷ []) ∷ []) ∷ [];
  calls = calls;
  mappings = (1, 8) ∷ [];
  notes = [];
}

-- the pair that overlaps, what becomes of each change, and the owner of each
abbrev Shown : Type 0
Shown = Option (ℕ × ℕ) × List Fate × List (Option ℕ)

unfoldable pub shown : Told → Answer Shown
shown b = accepted (in_bytes b) >>= λ a. gives (overlap a.table (changes by_default a), fates a.table (changes by_default a), map (owner a.table (changes by_default a)) (up_from 0 (length (changes by_default a))))

-- each example, and what is told of it
abbrev table : List (Told × Shown)
table =
    -- delete X, delete Y, c after a: the last region that contains it is Y's, though X's does too; a discarded change is a region
    (on_xy (call 3 1 [] ∷ call 3 2 [] ∷ call 1 3 (6 ∷ []) ∷ []), (none, own ∷ discarded 0 ∷ discarded 1 ∷ [], none ∷ some 0 ∷ some 1 ∷ []))
    -- delete X, b by c, c after a: X's range contains the insertion, but not b's change between them, which empties the stack
    ∷ (on_xy (call 3 1 [] ∷ call 2 4 (6 ∷ []) ∷ call 1 3 (6 ∷ []) ∷ []), (none, own ∷ own ∷ own ∷ [], none ∷ none ∷ none ∷ []))
    -- delete X, delete c, d after a: a change of another tree between them empties nothing
    ∷ (on_xy (call 3 1 [] ∷ call 3 6 [] ∷ call 1 3 (9 ∷ []) ∷ []), (none, own ∷ own ∷ discarded 0 ∷ [], none ∷ none ∷ some 0 ∷ []))
    -- X by R, c after a: dependent. X by c: discarded
    ∷ (on_xy (call 2 1 (7 ∷ []) ∷ call 1 3 (6 ∷ []) ∷ []), (none, own ∷ dependent 0 ∷ [], none ∷ some 0 ∷ []))
    ∷ (on_xy (call 2 1 (6 ∷ []) ∷ call 1 3 (6 ∷ []) ∷ []), (none, own ∷ discarded 0 ∷ [], none ∷ some 0 ∷ []))
    -- delete X, Y by W, c after a: a discarded call 2 of a node by a node discards
    ∷ (on_xy (call 3 1 [] ∷ call 2 2 (5 ∷ []) ∷ call 1 3 (6 ∷ []) ∷ []), (none, own ∷ discarded 0 ∷ discarded 1 ∷ [], none ∷ some 0 ∷ some 1 ∷ []))
    -- delete a, c after a: a token is no region
    ∷ (on_xy (call 3 3 [] ∷ call 1 3 (6 ∷ []) ∷ []), (none, own ∷ own ∷ [], none ∷ none ∷ []))
    -- run X to b, c as first child of X, b by c: 0 and 2 overlap, the places counting the insertion
    ∷ (on_xy (call 5 1 (4 ∷ []) ∷ call 0 1 (6 ∷ []) ∷ call 2 4 (6 ∷ []) ∷ []), (some (0, 2), own ∷ discarded 0 ∷ discarded 0 ∷ [], none ∷ some 0 ∷ some 0 ∷ []))
    -- three editors: run X to b, delete X, b by c. 1 overlaps 0; 2 does not overlap 1, its last peer, and so not 0 either
    ∷ (on_xy (call 5 1 (4 ∷ []) ∷ call 6 0 [] ∷ call 3 1 [] ∷ call 6 0 [] ∷ call 2 4 (6 ∷ []) ∷ []), (some (0, 1), own ∷ discarded 0 ∷ discarded 0 ∷ [], none ∷ some 0 ∷ some 0 ∷ []))
    ∷ []

pub examples : map (λ m. shown m.0) table ≡ map (λ m. gives m.1) table
unfolding computed in_lists in_bytes shown up_from last_below every_below spares owns owner
examples = refl
