-- What planning makes of a batch, and each way out of it on rows.
-- Assumes nothing.
use Rattle.std.specs.Prelude.{List, map, length, get_or}
use Rattle.std.proofs.Math.Option.{Option, none}
use Prim.Native.Nat.{ℕ}
use Rattle.definition.specs.Basics.{Answer, gives, ◌>>=◌, keep}
use Rattle.definition.specs.Choices.{Choices}
use Rattle.definition.specs.Elements.{Table}
use Rattle.definition.specs.Refusals.{Accepted, accepted}
use Rattle.definition.specs.Planning.{Planned, is_discarded, Judgement, overlaps, fated}
use Rattle.definition.specs.Withdrawing.{numbers_left}
use Rattle.definition.specs.Running.{ranked, order}
use Rattle.definition.specs.Answers.{withdrawing, judge_changes, Plan, plan, performed, at_first}
use Rattle.record_changes.specs.ChangeRow.{ChangeRow}
use Rattle.plan_notes.specs.Notes.{note_of, settled_at}
use Rattle.record_rewritten.specs.Stated.{plan_of}
use Rattle.plan_rewrite.specs.Rewritten.{rewrite_rows}
use Rattle.run_model.specs.Store.{HeldNote, store}

-- what running goes by: the changes, those that run, in order, the notes by their rows, and two numbers of the result
pub record Outcome : Type 0 where
  pub changes : List Planned
  pub running : List Planned
  pub notes : List HeldNote
  pub discarded : ℕ
  pub climbs : ℕ

-- of an accepted batch and its plan
unfoldable pub outcome : Accepted → Plan → Outcome
outcome a p = record {
  changes = p.changes;
  running = performed a p;
  notes = (store (at_first a p)).notes;
  discarded = length (keep (λ q. is_discarded q.fate) p.changes);
  climbs = p.climbs;
}

-- "numbers count withdrawn changes too": two that overlap, told by their numbers and not by their places among those that stay
unfoldable pub by_numbers : List (Option ℕ) → Judgement → Judgement
by_numbers ws (overlaps j k) = overlaps (get_or (numbers_left ws) j 0) (get_or (numbers_left ws) k 0)
by_numbers ws (fated ps) = fated ps

-- what the first stage finds of a batch, or its refusal out of 2 to 7 and 16
unfoldable pub judging : Choices → List ℕ → Answer Judgement
judging h b = do
  a ← accepted b
  gives (by_numbers (withdrawing h a) (judge_changes h a))

-- THE PLAN of a batch, or its refusal out of 2 to 10 and 16
unfoldable pub planning : Choices → List ℕ → Answer Outcome
planning h b = do
  a ← accepted b
  p ← plan h a
  gives (outcome a p)

-- of rewritten rows, the climb steps and the settled notes
abbrev pub rows_outcome : Table → List ℕ → List ChangeRow → ℕ → List HeldNote → Outcome
rows_outcome T listed rs steps notes = record {
  changes = map (plan_of listed) rs;
  running = order (ranked T (map (plan_of listed) rs)) (length (map (plan_of listed) rs)) none;
  notes = notes;
  discarded = length (keep (λ q. is_discarded q.fate) (map (plan_of listed) rs));
  climbs = steps;
}

-- the second stage on rows with their fates: 9 and 10, "dependents from the last to the first, ... then notes in order"
unfoldable pub rewrite_fated : Table → List ℕ → (ℕ → Option ℕ) → List ChangeRow → List (ℕ × ℕ) → Answer Plan
rewrite_fated T listed mapped rows noted = do
  q ← rewrite_rows T mapped listed rows rows
  ns ← settled_at T mapped 0 noted
  gives (record { changes = map (plan_of listed) q.0; climbs = q.1; notes = map (note_of T) ns })
