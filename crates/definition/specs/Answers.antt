-- The public calls: from a batch to its answer; refusals 17, 18 and 1.
-- Assumes nothing.
use Rattle.std.specs.Prelude.{Bool, List, ℕ, length, ltb}
use Rattle.std.proofs.Math.Option.{Option, none}
use Rattle.definition.specs.Basics.{Answer, refused, gives, ◌>>=◌, refuse, any}
use Rattle.definition.specs.Choices.{Choices, chosen}
use Rattle.definition.specs.Refusals.{Accepted, accepted}
use Rattle.definition.specs.Recording.{Recorded, recorded}
use Rattle.definition.specs.Planning.{Planned, sorted, Judgement, overlaps, fated}
use Rattle.definition.specs.EdgeRule.{judge}
use Rattle.definition.specs.Withdrawing.{withdrawals_by, staying}
use Rattle.definition.specs.Rewriting.{Note, mapping, rewritten, settled}
use Rattle.definition.specs.Running.{World, begin, ranked, order, steps}
use Rattle.definition.specs.Finishing.{Result, result, fitting, encoded}

-- ── Planning ────────────────────────────────────────────────────────────────────────────────────────────────

-- what is recorded, in sorted order
unfoldable pub sorted_changes : Accepted → List Recorded
sorted_changes a = sorted a.table (recorded a.calls)

-- under which of them each is withdrawn, by the choice
unfoldable pub withdrawing : Choices → Accepted → List (Option ℕ)
withdrawing h a = withdrawals_by h a.table (sorted_changes a)

-- "Withdrawn changes leave before planning": those that stay
unfoldable pub remaining : Choices → Accepted → List Recorded
remaining h a = staying (withdrawing h a) (sorted_changes a)

-- THE FIRST STAGE: what stays is judged; "Line 8 then concerns what is left."
unfoldable pub judge_changes : Choices → Accepted → Judgement
judge_changes h a = judge h a.table (remaining h a)

-- 8: "Replacements overlap."
unfoldable pub disjoint : Judgement → Answer (List Planned)
disjoint (overlaps j k) = refused 8
disjoint (fated ps) = gives ps

-- what is done, before anything is: the changes with rewritten targets and their fates, the climb steps, the notes where they settle
pub record Plan : Type 0 where
  pub changes : List Planned
  pub climbs : ℕ
  pub notes : List Note

-- THE SECOND STAGE, of changes that do not overlap. 9 and 10: "dependents from the last to the first, ... then notes in order"
unfoldable pub rewrite_changes : Accepted → List Planned → Answer Plan
rewrite_changes a ps = do
  let mapped = mapping a.mappings
  rs ← rewritten a.table mapped ps
  notes ← settled a.table mapped 0 a.notes
  gives (record { changes = rs.0; climbs = rs.1; notes = notes })

-- both: the plan, or the refusal out of 8, 9 and 10
unfoldable pub plan : Choices → Accepted → Answer Plan
plan h a = do
  ps ← disjoint (judge_changes h a)
  rewrite_changes a ps

-- ── Running ─────────────────────────────────────────────────────────────────────────────────────────────────

-- the performed changes in the order in which they run
unfoldable pub performed : Accepted → Plan → List Planned
performed a p = order (ranked a.table p.changes) (length p.changes) none

-- what the current trees, paths, notes and changed elements are before the first step
unfoldable pub at_first : Accepted → Plan → World
at_first a p = begin a.trees a.table p.notes

-- what they are after all steps
unfoldable pub ran : Accepted → Plan → Answer World
ran a p = steps a.table (at_first a p) (at_first a p) (performed a p)

-- a batch's edit, or its refusal out of 2 to 12 and 16
unfoldable pub edit : Choices → List ℕ → Answer Result
edit h bytes = do
  a ← accepted bytes
  p ← plan h a
  w ← ran a p
  gives (result p.changes p.climbs w)

-- ── The public calls ────────────────────────────────────────────────────────────────────────────────────────

-- 1: "A work slice is shorter than its length in docs/": each work slice as its length and the length that it needs
unfoldable pub too_short : List (ℕ × ℕ) → Bool
too_short work = any (λ s. ltb s.0 s.1) work

-- an answer that needs the work slices
unfoldable pub with_work : {A : Type 0} → List (ℕ × ℕ) → Answer A → Answer A
with_work work answer = do
  _ ← refuse 1 (too_short work)
  answer

-- an answer that is given by choices: 17, and 18 after it, are "checked before line 1"
unfoldable pub with_choices : {A : Type 0} → Choices → List (ℕ × ℕ) → Answer A → Answer A
with_choices h work answer = do
  _ ← chosen h
  with_work work answer

-- THE EDIT: the bytes of the result, in a buffer of `room` bytes, or the refusal out of 1 to 13 and 16 to 18
unfoldable pub edited : Choices → List (ℕ × ℕ) → List ℕ → ℕ → Answer (List ℕ)
edited h work bytes room = with_choices h work (do
  r ← edit h bytes
  r ← fitting room r
  gives (encoded r))
