-- What the answer means: document 01's number for a refusal, or what running goes by, with the words that were written.
-- Assumes nothing.
use Rattle.std.specs.Prelude.{List, map, ◌≡◌, ℕ, ◌≤◌, ◌<◌, length, take, drop, Result, Ok, Err}
use Rattle.orders.specs.Lists.{All}
use Rattle.definition.specs.Basics.{Answer, refused, gives}
use Rattle.definition.specs.Choices.{Choices}
use Rattle.definition.specs.Planning as rules
use Rattle.definition.specs.Planning.{overlaps, fated}
use Rattle.record_changes.specs.ChangeRow.{rows_of}
use Rattle.record_changes.specs.ChangeRowLaws.{row_at}
use Rattle.record_rewritten.specs.Stated.{plan_of}
use Rattle.plan_rewrite.specs.Kept.{Kept}
use Rattle.run_annotations.specs.Notes.{notes_of}
use Rattle.read_layout.specs.declared.Layout.{Layout}
use Rattle.plan_model.specs.Ready.{listed_in, table_in}
use Rattle.plan_model.specs.Outcome.{Outcome, judging, planning}
use Rattle.plan_edit.specs.Stages.{Withdrew}
use Rattle.plan_edit.specs.declared.Counts.{Counts}
use Rattle.plan_edit.specs.declared.Unplanned.{Unplanned}
use Rattle.plan_edit.specs.declared.Unplanned.TheVariants.{Refused, Overlap}
use Rattle.refusals.specs.Numbers.{number}

-- what running goes by, from the change rows, the places in running order and the notes in words
abbrev pub outcome_in : Layout → List ℕ → List ℕ → List ℕ → List ℕ → Counts → Outcome
outcome_in l b changes running first c = record {
  changes = map (plan_of (listed_in l b)) (rows_of c.changes changes);
  running = map (λ k. plan_of (listed_in l b) (row_at changes k)) (take c.runs running);
  notes = notes_of l.sizes.notes first;
  discarded = c.discarded;
  climbs = c.climbs;
}

unfoldable pub planned_by : Layout → List ℕ → List ℕ → List ℕ → List ℕ → Result Counts Unplanned → Answer Outcome
planned_by l b changes running first (Err (Refused r)) = refused (number r)
planned_by l b changes running first (Err (Overlap o)) = refused 8
planned_by l b changes running first (Ok c) = gives (outcome_in l b changes running first c)

-- what else is known of the words: each row is exact and states a change of elements, and each place is that of a row
pub record RowsPlanned (b : List ℕ) (l : Layout) (t s changes running : List ℕ) (c : Counts) : Type 0 where
  pub few : c.changes ≤ 256
  pub most : c.runs ≤ c.changes
  pub fewer : c.discarded ≤ c.changes
  pub climbs : c.climbs ≤ 1048576
  pub kept : All (Kept l.sizes.elements (table_in l t s) (listed_in l b)) (rows_of c.changes changes)
  pub low : All (λ k. k < c.changes) (take c.runs running)

abbrev pub PlanWithin : List ℕ → Layout → List ℕ → List ℕ → List ℕ → List ℕ → Result Counts Unplanned → Type 0
PlanWithin b l t s changes running (Err u) = Unit {0}
PlanWithin b l t s changes running (Ok c) = RowsPlanned b l t s changes running c

-- none of the changes of the batch b overlap, and each has its fate
pub record AllFated (h : Choices) (b : List ℕ) : Type 0 where
  pub changes : List rules.Planned
  pub judged : judging h b ≡ gives (fated changes)

-- what the first stage found, where this is the answer
abbrev pub FoundFirst : Choices → List ℕ → Result Counts Unplanned → Type 0
FoundFirst h b (Err (Refused r)) = AllFated h b
FoundFirst h b (Err (Overlap o)) = judging h b ≡ gives (overlaps o.earlier o.later)
FoundFirst h b (Ok c) = AllFated h b

-- what is planned by the choices h of the batch b with the layout l, the words t and s telling of its elements
pub record PlanMade (h : Choices) (b : List ℕ) (l : Layout) (t s changes running first : List ℕ) (r : Result Counts Unplanned) : Type 0 where
  pub answer : planned_by l b changes running first r ≡ planning h b
  pub within : PlanWithin b l t s changes running r
  pub found : FoundFirst h b r

-- ── With those withdrawn ────────────────────────────────────────────────────────────────────────────────────

-- the counts with that of all changes that are recorded
abbrev pub recorded_as : ℕ → Counts → Counts
recorded_as n c = record { recorded = n; changes = c.changes; runs = c.runs; discarded = c.discarded; climbs = c.climbs }

-- behind the change rows stands which of them are withdrawn
abbrev pub KeptWithdrawn : Choices → List ℕ → List ℕ → Result Counts Unplanned → Type 0
KeptWithdrawn h b changes (Err u) = Unit {0}
KeptWithdrawn h b changes (Ok c) = (3840 ≤ length changes) × Withdrew h b c.recorded (drop 3584 changes)

-- THE PROMISE of planning, whole
pub record Planning (h : Choices) (b : List ℕ) (l : Layout) (t s changes running first : List ℕ) (r : Result Counts Unplanned) : Type 0 where
  pub made : PlanMade h b l t s changes running first r
  pub withdrew : KeptWithdrawn h b changes r
