-- The reviewer's checklist, "Editors to try": each of them answers some batch with what no call that keeps its promise leaves. By computation.
-- Assumes nothing.
use Rattle.std.specs.Prelude.{◌≡◌, List, [], ◌∷◌, ℕ, length, take}
use Rattle.orders.specs.Tree.{Tree, text}
use Rattle.definition.specs.Basics.{Answer, refused, gives, ◌>>=◌}
use Rattle.definition.specs.Choices.{by_default}
use Rattle.definition.specs.Refusals.{accepted}
use Rattle.definition.specs.Running.{steps}
use Rattle.definition.specs.Finishing.{Result, result}
use Rattle.definition.specs.Answers.{plan, performed, at_first, ran, edit}
use Rattle.definition.specs.Examples.{Told, in_bytes, call, on_s}
use Rattle.promises.specs.Promises.{Edits}
use Rattle.promises_read.specs.Answered.{Lent, answer_in}

-- an editor, by what it answers to the bytes of a batch
abbrev pub Editor : Type 0
Editor = List ℕ → Answer Result

-- on this batch no call by default that keeps its promise leaves what the editor answers
abbrev pub Excluded : Told → Editor → Type 0
Excluded b e = (held : List ℕ) (work : List (List ℕ)) (r : Answer ℕ) (holds : List ℕ) (left : List (List ℕ)) → Edits by_default (in_bytes b) held work r holds left → Lent by_default (in_bytes b) held work → answer_in r holds ≡ e (in_bytes b) → ⊥

-- a refusal's number, 0 of a result
unfoldable pub refusal : Answer Result → ℕ
refusal (refused k) = k
refusal (gives r) = 0

-- a number of a result, 0 of a refusal
unfoldable pub of_result : (Result → ℕ) → Answer Result → ℕ
of_result f (refused k) = 0
of_result f (gives r) = f r

-- delete X, c after X: the second is discarded
abbrev pub one_discarded : Told
one_discarded = on_s (call 3 1 [] ∷ call 1 1 (5 ∷ []) ∷ [])

-- "returns tree 0 untouched"
unfoldable pub untouched : Editor
untouched bytes = do
  a ← accepted bytes
  p ← plan by_default a
  gives (result p.changes p.climbs (at_first a p))

-- the bytes of text of the first of these trees
unfoldable pub text_of_first : Answer (List (Tree ℕ)) → ℕ
text_of_first (refused k) = 0
text_of_first (gives []) = 0
text_of_first (gives (t ∷ ts)) = length (text t)

-- "performs the first step and lists the rest as changed"
unfoldable pub first_step_only : Editor
first_step_only bytes = do
  a ← accepted bytes
  p ← plan by_default a
  one ← steps a.table (at_first a p) (at_first a p) (take 1 (performed a p))
  all ← ran a p
  gives (result p.changes p.climbs (record { trees = one.trees; paths = one.paths; notes = one.notes; changed = all.changed }))

-- the result with these counts
abbrev pub with_counts : Result → ℕ → ℕ → Result
with_counts r discarded climbs = record { kinds = r.kinds; measures = r.measures; changed = r.changed; rules = r.rules; numbers = r.numbers; noted = r.noted; text = r.text; discarded = discarded; climbs = climbs }

-- "reports a made-up discard .. count": always n
unfoldable pub discards_made_up : ℕ → Editor
discards_made_up n bytes = edit by_default bytes >>= λ r. gives (with_counts r n r.climbs)

-- ".. or climb count": always n
unfoldable pub climbs_made_up : ℕ → Editor
climbs_made_up n bytes = edit by_default bytes >>= λ r. gives (with_counts r r.discarded n)

-- "says "gone" or "too large" before the step": k is 11 or 12, whatever is planned; and "always overlaps": 8, whatever lines 2 to 7 accept
unfoldable pub before_the_step : ℕ → Editor
before_the_step k bytes = do
  a ← accepted bytes
  p ← plan by_default a
  refused k

unfoldable pub always_overlaps : Editor
always_overlaps bytes = do
  a ← accepted bytes
  refused 8

-- "always one tree": one answer to every batch
unfoldable pub always : Answer Result → Editor
always a bytes = a
