-- What the functions of one step promise. Text is not read, so that each promise holds for any.
-- Assumes nothing.
use Rattle.std.specs.Prelude as prelude
use Rattle.std.specs.Prelude.{◌≡◌, None, Some, Result, Ok, cond, List, [], map, ℕ, ◌+◌, ◌≤◌, ◌<◌, length}
use Rattle.definition.specs.Elements.{Table}
use Rattle.definition.specs.Refusals.{most_listed}
use Rattle.definition.specs.Running.{news, records}
use Rattle.definition_laws.specs.Right.{Right}
use Rattle.refusals.specs.declared.Refusal.{Refusal}
use Rattle.rows_model.specs.Row.{first_rows, bytes}
use Rattle.rows_syntax_node.specs.Rising.{Rising}
use Rattle.run_model.specs.Store.{Part, part_of, spliced_store, store_step}
use Rattle.read_element_table.specs.View.{view}
use Rattle.record_rewritten.specs.Stated.{change_of, plan_of}
use Rattle.plan_rewrite.specs.Kept.{Kept}
use Rattle.run_annotations.specs.Changed.{count_by}
use Rattle.run_tree_store.specs.Stored.{stored_first}
use Rattle.record_changes.specs.ChangeRow.{ChangeRow}
use Rattle.run_tree_store.specs.declared.Gap.{Gap}
use Rattle.run_tree_state.specs.Store.{held_in, gap_told}
use Rattle.run_tree_state.specs.Applied.{executed_in, judged_store}
use Rattle.run_tree_state.specs.declared.Site.{Site}
use Rattle.run_tree_state.specs.declared.TreeState.{TreeState}
use Rattle.run_tree_store.specs.Promises.{SiteAt}
use Rattle.run_change.specs.Told.{AboveBy, records_by}
use Rattle.run_prepare.specs.Parts.{notes_in}
use Rattle.orders.specs.Lists.{meant}

-- where the change of a row goes, how deep, and by which rule it records; or none
pub record SiteFound (rows : List ℕ) (n : ℕ) (lines marks : List ℕ) (c : ChangeRow) (r : prelude.Option Site) : Type 0 where
  pub gone : r ≡ None → SiteAt rows n lines marks c.operation c.target c.end None
  pub found : (z : Site) → r ≡ Some z → SiteAt rows n lines marks c.operation c.target c.end (Some z.gap)
  pub deep : (z : Site) → r ≡ Some z → AboveBy lines c.operation c.target z.above
  pub records : (z : Site) → r ≡ Some z → z.recorded ≡ records_by c

-- how much is held after a step that is done: the root stands where it stood, with its text bytes, no more rows than line 12 takes, at most `gain` changed elements more, and marks that rise
pub record Grown (s : TreeState) (gain : ℕ) (rows' marks' : List ℕ) (t : TreeState) : Type 0 where
  pub place : t.root ≡ s.root
  pub measured : (text : List ℕ) → t.bytes ≡ bytes (first_rows text t.rows rows')
  pub few : t.rows ≤ 4097
  pub most : t.changed ≤ s.changed + gain
  pub risen : Rising marks'

-- what the listed elements l yield
unfoldable pub yields_in : TreeState → List ℕ → List ℕ → List ℕ → List ℕ → List ℕ → List ℕ → List ℕ → List ℕ → List Part
yields_in s rows marks notes changed source first text l = map (part_of (stored_first text (length marks) source (notes_in first) []) (held_in text s rows marks notes changed)) l

-- the gap has given way to what the elements l yield, or that was too much
pub record SteppedAt (s : TreeState) (rows marks notes changed source first : List ℕ) (g : Gap) (above : ℕ) (recorded : prelude.Option ℕ) (l rows' marks' notes' changed' : List ℕ) (r : Result TreeState Refusal) : Type 0 where
  pub answer : (text : List ℕ)
      → executed_in text rows' marks' notes' changed' r
      ≡ judged_store above (yields_in s rows marks notes changed source first text l) (spliced_store (gap_told g) (yields_in s rows marks notes changed source first text l) (meant recorded) (held_in text s rows marks notes changed))
  pub grown : (t : TreeState) → r ≡ Ok t → Grown s (count_by recorded (length l)) rows' marks' t

-- ── One performed change ────────────────────────────────────────────────────────────────────────────────────

-- the row of a change that lines 6 and 16 take, of a batch with n elements; its rule number has twelve bits
pub record Performs (n : ℕ) (T : Table) (listed : List ℕ) (r : ChangeRow) : Type 0 where
  pub kept : Kept n T listed r
  pub right : Right T (change_of listed r)
  pub few : length (news (change_of listed r)) ≤ most_listed
  pub ruled : r.rule < 4096

-- how many changed elements it may add
unfoldable pub lists_in : Table → List ℕ → ChangeRow → ℕ
lists_in T listed r = cond (records T (plan_of listed r)) (length (news (change_of listed r))) 0

-- the step of the change that a row states
pub record Stepped (lines source first listed : List ℕ) (c : ChangeRow) (s : TreeState) (rows marks notes changed rows' marks' notes' changed' : List ℕ) (r : Result TreeState Refusal) : Type 0 where
  pub answer : (text : List ℕ)
      → executed_in text rows' marks' notes' changed' r ≡ store_step (view (length marks) lines source) (stored_first text (length marks) source (notes_in first) []) (held_in text s rows marks notes changed) (plan_of listed c)
  pub grown : (t : TreeState) → r ≡ Ok t → Grown s (lists_in (view (length marks) lines source) listed c) rows' marks' t
