-- The share of batches that are written out, by computation.
-- Assumes nothing.
use Rattle.std.specs.Prelude.{◌≡◌, refl, Bool, false, List, [], ◌∷◌, map, ℕ}
use Rattle.definition.specs.Basics.{Answer, gives, refused, ◌>>=◌}
use Rattle.definition.specs.Choices.{by_default}
use Rattle.definition.specs.Refusals.{Call, accepted}
use Rattle.definition.specs.Answers.{plan, performed, ran}
use Rattle.definition.specs.Computing.{computed}
use Rattle.definition.specs.Examples.{Told, in_lists, in_bytes, node_of, token_of, call, printed_case}
use Rattle.definition_demand.specs.Aims.{replaces_root}
use Rattle.definition_account.specs.Words.{changed_in, keeps_root}
use Rattle.share_laws.proofs.Root.{own_roots}
use Rattle.share_laws.specs.Share.{lies_in, lies_in_one, bytes_in, new_text, rewritten_bytes, thousandths, share_in, share, shared}

-- calls on root(X("ab"), "cde") beside trees W("fgh", V()) and U(): X is 1, ab 2, cde 3; W is 4, fgh 5, V 6; U is 7
abbrev on_text : List Call → Told
on_text calls = record {
  trees = node_of 1 (node_of 2 (token_of 3 "ab" ∷ []) ∷ token_of 3 "cde" ∷ []) ∷ node_of 5 (token_of 3 "fgh" ∷ node_of 4 [] ∷ []) ∷ node_of 6 [] ∷ [];
  calls = calls;
  mappings = [];
  notes = [];
}

-- each batch, and its share by default
abbrev pub shares : List (Told × Answer (ℕ × ℕ))
shares =
    -- the printed case: one byte of three
    (printed_case, gives (333, 1))
    -- fgh behind X: 3 bytes of 8
    ∷ (on_text (call 1 1 (5 ∷ []) ∷ []), gives (375, 0))
    -- W behind X: its 3 bytes count once, though fgh is in W
    ∷ (on_text (call 1 1 (4 ∷ []) ∷ []), gives (375, 0))
    -- fgh first in X, and cde by fgh: 6 bytes of 8
    ∷ (on_text (call 0 1 (5 ∷ []) ∷ call 2 3 (5 ∷ []) ∷ []), gives (750, 0))
    -- fgh first in X, V behind it: an empty element has no byte
    ∷ (on_text (call 0 1 (5 ∷ []) ∷ call 1 1 (6 ∷ []) ∷ []), gives (375, 0))
    -- X by fgh: 3 bytes of 6; ab by V: no byte of 3
    ∷ (on_text (call 2 1 (5 ∷ []) ∷ []), gives (500, 0))
    ∷ (on_text (call 2 2 (6 ∷ []) ∷ []), gives (0, 0))
    -- X deleted: nothing is changed
    ∷ (on_text (call 3 1 [] ∷ []), gives (0, 0))
    -- no call at all
    ∷ (on_text [], gives (0, 0))
    -- the root by W: all; by U: an empty text
    ∷ (on_text (call 2 0 (4 ∷ []) ∷ []), gives (1000, 0))
    ∷ (on_text (call 2 0 (7 ∷ []) ∷ []), gives (0, 0))
    -- the root deleted: line 6
    ∷ (on_text (call 3 0 [] ∷ []), refused 6)
    ∷ []

pub shares_told : map (λ e. shared by_default [] (in_bytes e.0)) shares ≡ map (λ e. e.1) shares
unfolding computed in_lists in_bytes lies_in lies_in_one bytes_in new_text changed_in rewritten_bytes thousandths share_in share shared
shares_told = refl

-- 17 comes before 18, 18 before 1, and 1 before all else: a work slice of 3 words that needs 4
pub refusals_first : (shared (record { edge = 2; stronger = 2 }) ((3, 4) ∷ []) [] ≡ refused 17) × (shared (record { edge = 1; stronger = 2 }) ((3, 4) ∷ []) [] ≡ refused 18) × (shared by_default ((3, 4) ∷ []) [] ≡ refused 1) × (shared by_default ((4, 4) ∷ []) [] ≡ refused 2)
unfolding computed in_lists in_bytes lies_in lies_in_one bytes_in new_text changed_in rewritten_bytes thousandths share_in share shared
refusals_first = (refl, refl, refl, refl)

-- Two editors replace an empty root, the first by itself: the second one's change is a dependent that ends at the root of tree 0, and `own_roots` is false. Such a root has no text, so the share is 0 and 0.
abbrev empty_root : Told
empty_root = record {
  trees = node_of 1 [] ∷ node_of 5 (token_of 3 "fgh" ∷ []) ∷ [];
  calls = call 2 0 (0 ∷ []) ∷ call 6 0 [] ∷ call 2 0 (1 ∷ []) ∷ [];
  mappings = [];
  notes = [];
}

-- whether the root is kept, whether no dependent replaces it, and the share
unfoldable pub root_in : List ℕ → Answer (Bool × Bool × (ℕ × ℕ))
root_in bytes = do
  a ← accepted bytes
  p ← plan by_default a
  w ← ran a p
  gives (keeps_root a.table (performed a p), own_roots a.table (performed a p), share_in w)

pub root_twice : root_in (in_bytes empty_root) ≡ gives (false, false, (0, 0))
unfolding computed in_lists in_bytes lies_in lies_in_one bytes_in new_text changed_in rewritten_bytes thousandths share_in root_in replaces_root keeps_root own_roots
root_twice = refl
