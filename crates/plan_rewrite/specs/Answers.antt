-- What each answer means: document 01's number for a refusal, and the values for the rest.
-- Assumes nothing.
use Rattle.std.specs.Prelude.{List, ◌≡◌, get_or, drop, ℕ, suc, ◌*◌, ◌≤◌, ◌<◌, Result, Ok, Err}
use Rattle.definition.specs.Basics.{Answer, refused, gives, ◌>>=◌}
use Rattle.definition.specs.Elements.{Table}
use Rattle.definition.specs.Planning.{target}
use Rattle.definition.specs.Rewriting.{replacement, moved}
use Rattle.read_element_table.specs.View.{view}
use Rattle.record_changes.specs.ChangeRow.{ChangeRow, rows_of, change_row}
use Rattle.record_changes.specs.ChangeRowLaws.{row_at}
use Rattle.plan_sort.specs.Rows.{row_fate, with_fate}
use Rattle.plan_mapping.specs.Mapped.{mapped_by}
-- the steps of what was rewritten
unfoldable pub use Rattle.plan_mapping.specs.Answers.{steps_of}
use Rattle.record_rewritten.specs.Stated.{new_of, change_of}
use Rattle.refusals.specs.declared.Refusal.{Refusal}
use Rattle.refusals.specs.Numbers.{number}
use Rattle.plan_rewrite.specs.declared.Ends.{Ends}
use Rattle.plan_rewrite.specs.Rewritten.{moved_ends, judged_ends, rewrite_rows}

-- ── Where the ends of a change go ───────────────────────────────────────────────────────────────────────────

-- the new target, the new end, and the steps
unfoldable pub ends_by : Result Ends Refusal → Answer (ℕ × ℕ × ℕ)
ends_by (Ok e) = gives (e.target, e.end, e.steps)
ends_by (Err r) = refused (number r)

-- they are elements, and the steps at most two climbs
abbrev pub EndsWithin : ℕ → Result Ends Refusal → Type 0
EndsWithin n (Ok e) = (e.target < n) × (e.end < n) × (e.steps ≤ 2 * n)
EndsWithin n (Err r) = Unit

-- where target and end go when x is replaced by r
pub record MovedEnds (n : ℕ) (table source map : List ℕ) (x r op target end : ℕ) (answer : Result Ends Refusal) : Type 0 where
  pub ends : ends_by answer ≡ moved_ends (moved (view n table source) (mapped_by map) x r) op target end
  pub within : EndsWithin n answer

-- those of the row r, whose owner is the row o
pub record OwnedEnds (n : ℕ) (table source map listed : List ℕ) (o r : ChangeRow) (answer : Result Ends Refusal) : Type 0 where
  pub ends : ends_by answer ≡ moved_ends (moved (view n table source) (mapped_by map) (target (change_of listed o)) (replacement (change_of listed o))) r.operation r.target r.end
  pub within : EndsWithin n answer

-- ── Rows rewritten ──────────────────────────────────────────────────────────────────────────────────────────

-- with what was written
unfoldable pub rewritten_by : {A : Type 0} → Result ℕ Refusal → A → Answer (A × ℕ)
rewritten_by (Ok k) rows = gives (rows, k)
rewritten_by (Err r) rows = refused (number r)

-- the row at place i is written as wanted, or refused, and the rows behind it stay
pub record RowRewritten (want : Answer (ChangeRow × ℕ)) (i : ℕ) (before after : List ℕ) (answer : Result ℕ Refusal) : Type 0 where
  pub row : rewritten_by answer (row_at after i) ≡ want
  pub behind : drop (14 * suc i) after ≡ drop (14 * suc i) before
  pub few : steps_of answer ≤ 4096

-- what a judged change becomes as the row r
unfoldable pub judged_row : Table → List ℕ → ChangeRow → ℕ × ℕ × ℕ → Answer (ChangeRow × ℕ)
judged_row T listed r q = do
  m ← judged_ends T r.operation (get_or listed r.list 0) (new_of listed r) q
  gives (with_fate (change_row T r.list r.rule m.0) (row_fate r), m.1)

-- all c rows, rewritten by the sorted rows w
pub record RowsRewritten (n : ℕ) (table source map listed w : List ℕ) (c : ℕ) (after : List ℕ) (answer : Result ℕ Refusal) : Type 0 where
  pub rows : rewritten_by answer (rows_of c after) ≡ rewrite_rows (view n table source) (mapped_by map) listed (rows_of c w) (rows_of c w)
  pub few : steps_of answer ≤ 4096 * c
