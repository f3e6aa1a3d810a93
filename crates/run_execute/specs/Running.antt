-- The run: what it promises, and one step on.
-- Assumes nothing.
use Rattle.std.specs.Prelude.{◌≡◌, Result, Ok, refl, List, [], ◌∷◌, map, ℕ, ◌+◌, ◌≤◌, length}
use Rattle.std.proofs.Common.{sym, ap, ◌∙◌, arith}
use Rattle.std.proofs.lemmas.List.{length-map}
use Rattle.orders.specs.Lists.{total}
use Rattle.definition.specs.Elements.{Table, table}
use Rattle.definition.specs.Planning.{Planned}
use Rattle.definition.specs.Running.{news, records}
use Rattle.refusals.specs.declared.Refusal.{Refusal}
use Rattle.run_model.specs.Store.{Store, store, store_steps}
use Rattle.read_element_table.specs.View.{view}
use Rattle.read_element_table.specs.Told.{length_view}
use Rattle.record_changes.specs.ChangeRow.{ChangeRow}
use Rattle.record_changes.specs.ChangeRowLaws.{row_at}
use Rattle.record_rewritten.specs.Stated.{plan_of}
use Rattle.rows_model.specs.Row.{first_rows, bytes}
use Rattle.rows_model.specs.Place.{mark_of}
use Rattle.rows_syntax_node.specs.Rising.{Rising}
use Rattle.run_tree_store.specs.Stored.{stored, stored_first}
use Rattle.run_tree_state.specs.Store.{held_in}
use Rattle.run_tree_state.specs.Applied.{executed_in}
use Rattle.run_tree_state.specs.declared.TreeState.{TreeState}
use Rattle.run_step.specs.Standing.{now_next, Standing}
use Rattle.run_step.specs.Stepping.{Performs, lists_in, Stepped}
use Rattle.run_prepare.specs.Parts.{notes_in}

-- the planned changes at some places
unfoldable pub plans_in : List ℕ → List ℕ → List ℕ → List Planned
plans_in listed changes ks = map (λ k. plan_of listed (row_at changes k)) ks

-- how many changed elements they may add
unfoldable pub lists_all : Table → List ℕ → List ℕ → List ℕ → ℕ
lists_all T listed changes [] = 0
lists_all T listed changes (k ∷ ks) = lists_in T listed (row_at changes k) + lists_all T listed changes ks

-- that is what those of them that record list
pub lists_total : (T : Table) (listed changes ks : List ℕ) → lists_all T listed changes ks ≡ total (records T) (λ p. length (news p.change)) (plans_in listed changes ks)
unfolding lists_all lists_in plans_in plan_of total
lists_total T listed changes [] = refl
lists_total T listed changes (k ∷ ks) = ap (λ (n : ℕ). lists_in T listed (row_at changes k) + n) (lists_total T listed changes ks)

-- the run over the changes at some places
pub record RanSteps (lines source first listed changes running : List ℕ) (s : TreeState) (rows marks notes changed rows' marks' notes' changed' : List ℕ) (r : Result TreeState Refusal) : Type 0 where
  pub answer : (text : List ℕ)
      → executed_in text rows' marks' notes' changed' r
      ≡ store_steps (view (length marks) lines source) (stored_first text (length marks) source (notes_in first) []) (held_in text s rows marks notes changed) (plans_in listed changes running)
  pub standing : (t : TreeState) → r ≡ Ok t → Standing (length marks) lines source first t rows' marks' notes' changed'

-- the text of the first rows, those of n elements and of the node above them all, is k bytes long, whatever the text of all
abbrev pub TextLength : ℕ → List ℕ → ℕ → Type 0
TextLength n source k = (text : List ℕ) → k ≡ bytes (first_rows text (n + 1) source)

-- before the first step: what the batch's own words tell
pub record Began (n : ℕ) (source first rows marks notes : List ℕ) (s : TreeState) : Type 0 where
  pub told : (text changed : List ℕ) → held_in text s rows marks notes changed ≡ stored_first text n source (notes_in first) []
  pub place : s.root ≡ 1
  pub count : s.rows ≡ n + 1
  pub none : s.changed ≡ 0
  pub measured : (text : List ℕ) → s.bytes ≡ bytes (first_rows text s.rows rows)
  pub risen : Rising marks

-- the whole run
pub record Ran (n : ℕ) (lines source first listed changes running rows marks notes changed : List ℕ) (r : Result TreeState Refusal) : Type 0 where
  pub answer : (text : List ℕ)
      → executed_in text rows marks notes changed r
      ≡ store_steps (view n lines source) (stored_first text n source (notes_in first) []) (stored_first text n source (notes_in first) []) (plans_in listed changes running)
  pub standing : (t : TreeState) → r ≡ Ok t → Standing n lines source first t rows marks notes changed

-- ── One step on ─────────────────────────────────────────────────────────────────────────────────────────────

-- as many marks as elements
pub marks_many : {n : ℕ} {lines source first : List ℕ} {s : TreeState} {rows marks notes changed : List ℕ} → Standing n lines source first s rows marks notes changed → length marks ≡ n
unfolding stored store
marks_many {n} {lines} {source} {first} {s} {rows} {marks} v =
    let w = v.now.world in
    let f = v.now.kept.follows in
    ap length (ap (λ (x : Store). x.marks) v.now.same)
    ∙ (length-map w.paths (mark_of w.trees) ∙ (ap length f.paths ∙ (length-map (table 0 0 v.begun.trees) (λ r. f.move r.path) ∙ (ap length (sym v.begun.table_told) ∙ length_view n lines source))))

-- what is held after a step stands too
pub standing_next : {lines source first listed : List ℕ} {c : ChangeRow} {s t : TreeState} {rows marks notes changed rows' marks' notes' changed' : List ℕ}
    → Standing (length marks) lines source first s rows marks notes changed → Performs (length marks) (view (length marks) lines source) listed c
    → Stepped lines source first listed c s rows marks notes changed rows' marks' notes' changed' (Ok t) → 12291 ≤ length rows' → s.changed + lists_in (view (length marks) lines source) listed c ≤ length changed'
    → Standing (length marks) lines source first t rows' marks' notes' changed'
unfolding executed_in plan_of
standing_next {lines} {source} {first} {listed} {c} {s} {t} {rows} {marks} {notes} {changed} {rows'} {marks'} {notes'} {changed'} v u w long room =
    let g = w.grown t refl in
    record {
      begun = v.begun;
      now = now_next v.begun (held_in v.begun.text s rows marks notes changed) (held_in v.begun.text t rows' marks' notes' changed') (plan_of listed c) v.now u.right (sym (w.answer v.begun.text));
      place = g.place ∙ v.place;
      long = omega (arith, g.few);
      held = omega (arith, g.most);
      measured = g.measured;
      risen = g.risen;
    }
