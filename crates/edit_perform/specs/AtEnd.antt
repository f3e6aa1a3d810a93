-- What is held at the end of a run, as the words tell it.
-- Assumes nothing.
use Rattle.std.specs.Prelude.{◌≡◌, Result, Ok, Err, false, List, map, ℕ, ◌+◌, ◌*◌, ◌^◌, ◌≤◌, ◌<◌, length, take, drop}
use Rattle.orders.specs.Tree.{node, forest}
use Rattle.definition.specs.Basics.{Answer, refused, gives, ◌>>=◌, keep}
use Rattle.definition.specs.Choices.{Choices, chosen}
use Rattle.definition.specs.Planning.{is_discarded}
use Rattle.definition.specs.Refusals.{Accepted, accepted}
use Rattle.definition.specs.Answers.{too_short, with_choices}
use Rattle.definition.specs.Finishing.{fitting}
use Rattle.definition.specs.Printed.{program_room}
use Rattle.definition.specs.Withdrawing.{staying}
use Rattle.definition.specs.Account.{account_of, said_lines, overlap_line, account}
use Rattle.definition_laws.specs.Held.{Holds}
use Rattle.read_element_table.specs.View.{view}
use Rattle.read_element_table.specs.Wellformed.{Wellformed}
use Rattle.record_changes.specs.ChangeRow.{rows_of}
use Rattle.plan_sort.specs.Rows.{row_fate}
use Rattle.plan_withdraw.specs.Rule.{told}
use Rattle.rows_model.specs.Row.{first_rows, rows_of as tree_rows, bytes}
use Rattle.rows_model.specs.Place.{mark_of}
use Rattle.run_annotations.specs.Notes.{notes_of}
use Rattle.run_annotations.specs.Changed.{changed_in}
use Rattle.run_model.specs.Store.{store}
use Rattle.run_tree_store.specs.Stored.{stored}
use Rattle.promises.specs.Slices.{needed, lengths}
use Rattle.edit_perform.specs.Ending.{End, ending, result_at}
use Rattle.edit_perform.specs.declared.Ended.{Ended}
use Rattle.plan_edit.specs.declared.Unplanned.{Unplanned}
use Rattle.plan_edit.specs.declared.Unplanned.TheVariants.{Refused, Overlap}
use Rattle.refusals.specs.Numbers.{number}
use Rattle.refusals.specs.declared.Refusal.{Refusal}

-- the run of the batch b has ended, and the slices hold what it left, with these counts
pub record AtEnd (h : Choices) (b rows notes changed : List ℕ) (d : Ended) : Type 0 where
  pub end : End
  pub ends : ending h b ≡ gives end
  pub holds : Holds end.world
  -- the current trees, the notes and the changed elements, by their rows
  pub marks : List ℕ
  pub held : store end.world ≡ stored (drop d.text b) d.rows rows marks (notes_of d.notes notes) (changed_in d.changed changed)
  pub discarded : d.discarded ≡ length (keep (λ p. is_discarded p.fate) end.planned.changes)
  pub climbs : d.climbs ≡ end.planned.climbs
  -- and nothing is larger than its slice
  pub text_within : d.text ≤ length b
  pub rows_within : 3 * d.rows ≤ length rows
  pub some_rows : 1 ≤ d.rows
  pub few_rows : d.rows ≤ 4097
  pub few_bytes : (text : List ℕ) → bytes (first_rows text d.rows rows) < 2 ^ 32
  pub notes_within : 3 * d.notes ≤ length notes
  pub few_notes : d.notes < 2 ^ 16
  pub changed_within : d.changed ≤ length changed
  pub few_changed : d.changed < 2 ^ 16
  pub few_discarded : d.discarded < 2 ^ 32
  pub few_climbs : d.climbs < 2 ^ 32

-- the words t and s tell of the elements of the batch b
pub record Told (b t s : List ℕ) (n : ℕ) : Type 0 where
  pub batch : Accepted
  pub accepts : accepted b ≡ gives batch
  pub table : view n t s ≡ batch.table
  -- the rows are those of its trees, under the node above them all
  pub text : List ℕ
  pub rows : first_rows text (n + 1) s ≡ tree_rows (node 2147483648 (forest batch.trees))
  pub formed : Wellformed n t s

-- the run of the batch b has ended, and the marks are the rows where its elements stand
pub record Marked (h : Choices) (b marks : List ℕ) (d : Ended) : Type 0 where
  pub end : End
  pub ends : ending h b ≡ gives end
  pub long : d.elements ≤ length marks
  pub told : take d.elements marks ≡ map (mark_of end.world.trees) end.world.paths

-- the words behind the rows that tell which of the recorded changes are withdrawn
abbrev pub withdrawn_in : ℕ → List ℕ → List ℕ
withdrawn_in n changes = take n (drop 3584 changes)

-- the words hold what became of each recorded change of the batch b: the account, unless the edit program's buffer cannot hold the result
pub record Recounted (h : Choices) (b changes : List ℕ) (d : Ended) : Type 0 where
  pub few : d.recorded ≤ 256
  pub long : 3584 + d.recorded ≤ length changes
  -- so many stay, with a row each
  pub rows : ℕ
  pub stay : rows ≡ length (staying (map told (withdrawn_in d.recorded changes)) (withdrawn_in d.recorded changes))
  pub text : (e : End) → ending h b ≡ gives e
      → account h b ≡ (fitting program_room (result_at e) >>= λ r. gives (said_lines (account_of (map told (withdrawn_in d.recorded changes)) (map row_fate (rows_of rows changes)))))

-- the changes j and k of the batch b overlap
pub record Overlapped (h : Choices) (b : List ℕ) (j k : ℕ) : Type 0 where
  pub refused8 : ending h b ≡ refused 8
  pub text : account h b ≡ gives (overlap_line j k)

-- a run of the batch b: refused by the definition's number, or at the end of the run
pub record Performs (h : Choices) (b t s changes rows notes changed marks : List ℕ) (r : Result Ended Unplanned) : Type 0 where
  pub refuses : (e : Refusal) → r ≡ Err (Refused e) → (ending h b ≡ refused (number e)) × (account h b ≡ refused (number e))
  pub overlaps : (j k : ℕ) → r ≡ Err (Overlap (record { earlier = j; later = k })) → Overlapped h b j k
  pub ends : (d : Ended) → r ≡ Ok d → AtEnd h b rows notes changed d
  pub tells : (d : Ended) → r ≡ Ok d → Told b t s d.elements
  pub marked : (d : Ended) → r ≡ Ok d → Marked h b marks d
  pub recounts : (d : Ended) → r ≡ Ok d → Recounted h b changes d

-- THE PROMISE of performing by the choices h with the work slices `work`: 17 or 18 where there is no such choice, 1 where a slice is too short, or what a run answers
pub data PerformsWith (h : Choices) (work : List (List ℕ)) (b t s changes rows notes changed marks : List ℕ) (r : Result Ended Unplanned) : Type 0 where
  early : (e : Refusal) → ◌≡◌ {A = Answer (Unit {0})} (with_choices h (lengths needed work) (gives tt)) (refused (number e)) → r ≡ Err (Refused e) → PerformsWith h work b t s changes rows notes changed marks r
  long : chosen h ≡ gives tt → too_short (lengths needed work) ≡ false → Performs h b t s changes rows notes changed marks r → PerformsWith h work b t s changes rows notes changed marks r
