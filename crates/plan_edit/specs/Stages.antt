-- What each stage of planning leaves for the next, of the batch b with the layout l, the words t and s telling of its elements.
-- Assumes nothing.
use Rattle.std.specs.Prelude.{cond, List, ◌++◌, map, ◌≡◌, ℕ, ◌*◌, ◌≤◌, eqb, length, take, drop, replicate, Result, Ok, Err}
use Rattle.std.proofs.Math.Option.{Option, none, some}
use Rattle.orders.specs.Lists.{All}
use Rattle.definition.specs.Basics.{Answer, gives}
use Rattle.definition.specs.Choices.{Choices}
use Rattle.definition.specs.Refusals.{Accepted, accepted}
use Rattle.definition.specs.Planning.{Judgement, overlaps, fated}
use Rattle.definition.specs.Withdrawing.{staying}
use Rattle.definition.specs.Rewriting.{mapping}
use Rattle.definition.specs.Answers.{withdrawing}
use Rattle.record_changes.specs.ChangeRow.{ChangeRow, rows_of}
use Rattle.record_changes.specs.ChangeRowLaws.{rows_words}
use Rattle.plan_overlap.specs.Overlap.{rows_overlap}
use Rattle.plan_changed_region.specs.Fates.{planned_rows}
use Rattle.plan_edge.specs.Rule.{edge_rows}
use Rattle.plan_withdraw.specs.Rule.{told, withdrawals, number_at}
use Rattle.plan_mapping.specs.Mapped.{mapped_by, Mapped}
use Rattle.record_rewritten.specs.Stated.{plan_of}
use Rattle.plan_rewrite.specs.Kept.{Kept}
use Rattle.plan_rewrite.specs.Rewritten.{rewrite_rows}
use Rattle.plan_rewrite.specs.Answers.{rewritten_by, steps_of}
use Rattle.refusals.specs.declared.Refusal.{Refusal}
use Rattle.read_layout.specs.declared.Layout.{Layout}
use Rattle.plan_model.specs.Fated.{sorted_rows, RowsFated}
use Rattle.plan_model.specs.Ready.{listed_in, calls_in, mappings_in, table_in}
use Rattle.plan_model.specs.Outcome.{judging}
use Rattle.plan_overlap.specs.declared.Overlap.{Overlap}
use Rattle.plan_edit.specs.declared.Fated.{Fated}

-- the words w hold the c recorded changes in sorted order
pub record Sorted (b : List ℕ) (l : Layout) (t s : List ℕ) (c : ℕ) (w : List ℕ) : Type 0 where
  pub few : c ≤ 256
  pub rows : rows_of c w ≡ sorted_rows (table_in l t s) (calls_in l b)

-- which of n rows of the words v are withdrawn, in words, by the choice and the words w of the element table
unfoldable pub rule_words : Choices → List ℕ → ℕ → List ℕ → List ℕ
rule_words h w n v = cond (eqb h.stronger 0) (replicate n 0) (withdrawals w v n)

-- r rows of the words v' are left of n of the words v; the first n words of p tell which are withdrawn
pub record LeftBy (h : Choices) (w : List ℕ) (n : ℕ) (v v' p : List ℕ) (r : ℕ) : Type 0 where
  pub words : take n p ≡ rule_words h w n v
  pub long : n ≤ length p
  pub rows : rows_of r v' ≡ staying (map told (take n p)) (rows_of n v)
  pub few : r ≤ n

-- c rows of the words v with their fates, by the choice and the words w of the element table
unfoldable pub rule_rows : Choices → List ℕ → ℕ → List ℕ → List ChangeRow
rule_rows h w c v = cond (eqb h.edge 0) (planned_rows (rows_of c v)) (edge_rows w c v)

-- what the answer of the first stage means, where the words w hold the rows with their fates
unfoldable pub judged_by : List ℕ → List ℕ → Result Fated Overlap → Judgement
judged_by listed w (Err o) = overlaps o.earlier o.later
judged_by listed w (Ok f) = fated (map (plan_of listed) (rows_of f.staying w))

-- c of n changes stay: those that overlap, by their numbers (the words p tell which are withdrawn); or none do
unfoldable pub judgement_of : ℕ → ℕ → List ℕ → Option (ℕ × ℕ) → Result Fated Overlap
judgement_of n c p none = Ok (record { recorded = n; staying = c })
judgement_of n c p (some q) = Err (record { earlier = number_at 0 (take n p) q.0; later = number_at 0 (take n p) q.1 })

-- c rows of the words v are judged, of n changes of which the words p tell which are withdrawn; v' holds their fates
pub record RowsJudged (h : Choices) (w : List ℕ) (n c : ℕ) (v v' p : List ℕ) (r : Result Fated Overlap) : Type 0 where
  pub answer : r ≡ judgement_of n c p (rows_overlap (rows_of c v))
  pub fates : rows_overlap (rows_of c v) ≡ none → v' ≡ rows_words (rule_rows h w c v) ++ drop (14 * c) v

-- the first n words of p tell which changes of the batch b are withdrawn
pub record Withdrew (h : Choices) (b : List ℕ) (n : ℕ) (p : List ℕ) : Type 0 where
  pub few : n ≤ 256
  pub told : (a : Accepted) → accepted b ≡ gives a → map told (take n p) ≡ withdrawing h a

-- what the second stage goes by
pub record ChangesFated (h : Choices) (b : List ℕ) (l : Layout) (t s w : List ℕ) (c : ℕ) : Type 0 where
  pub answer : gives (fated (map (plan_of (listed_in l b)) (rows_of c w))) ≡ judging h b
  pub within : RowsFated l.sizes.elements (table_in l t s) (listed_in l b) c w

abbrev pub JudgedWithin : Choices → List ℕ → Layout → List ℕ → List ℕ → List ℕ → List ℕ → Result Fated Overlap → Type 0
JudgedWithin h b l t s w p (Err o) = Unit {0}
JudgedWithin h b l t s w p (Ok f) = ChangesFated h b l t s w f.staying × Withdrew h b f.recorded p

-- THE PROMISE of the first stage
pub record ChangesJudged (h : Choices) (b : List ℕ) (l : Layout) (t s w p : List ℕ) (r : Result Fated Overlap) : Type 0 where
  pub answer : gives (judged_by (listed_in l b) w r) ≡ judging h b
  pub within : JudgedWithin h b l t s w p r

-- what becomes of rows, of which all that the second stage needs is known, by the mappings of the batch
abbrev pub rewrites : List ℕ → Layout → List ℕ → List ℕ → List ChangeRow → Answer (List ChangeRow × ℕ)
rewrites b l t s rows = rewrite_rows (table_in l t s) (mapping (mappings_in l b)) (listed_in l b) rows rows

-- the words w hold the rows with rewritten targets, as far as r does not refuse one; m is the array of mappings
pub record Rewriting (b : List ℕ) (l : Layout) (t s m : List ℕ) (before : List ChangeRow) (c : ℕ) (w : List ℕ) (r : Result ℕ Refusal) : Type 0 where
  pub mapped : Mapped l.sizes.elements m
  pub mappings : mapped_by m ≡ mapping (mappings_in l b)
  pub rows : rewritten_by r (rows_of c w) ≡ rewrites b l t s before
  pub climbs : steps_of r ≤ 1048576

-- none is refused, after so many climb steps
pub record Rewrote (h : Choices) (b : List ℕ) (l : Layout) (t s m : List ℕ) (c steps : ℕ) (w : List ℕ) : Type 0 where
  pub few : c ≤ 256
  -- the rows as they were judged
  pub before : List ChangeRow
  pub judged : judging h b ≡ gives (fated (map (plan_of (listed_in l b)) before))
  pub kept : All (Kept l.sizes.elements (table_in l t s) (listed_in l b)) before
  pub mapped : Mapped l.sizes.elements m
  pub mappings : mapped_by m ≡ mapping (mappings_in l b)
  pub rewrote : rewrites b l t s before ≡ gives (rows_of c w, steps)
  pub climbs : steps ≤ 1048576
