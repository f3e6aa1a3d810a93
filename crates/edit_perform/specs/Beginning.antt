-- What an accepted and planned batch leaves in words is where the run begins.
-- Assumes nothing.
use Rattle.std.specs.Prelude.{◌≡◌, Result, Ok, List, map, ℕ, ◌+◌, ◌*◌, ◌≤◌, ◌<◌}
use Rattle.std.proofs.Math.Path.{refl, ap, subst}
use Rattle.std.proofs.Common.{◌∙◌, arith}
use Rattle.std.proofs.Math.ListN.{length, take, drop, length-drop}
use Rattle.orders.specs.Lists.{All}
use Rattle.orders.specs.Tree.{node, forest}
use Rattle.definition.specs.Basics.{gives}
use Rattle.definition.specs.Choices.{Choices}
use Rattle.definition.specs.Elements.{Table, row}
use Rattle.definition.specs.Running.{begin}
use Rattle.definition.specs.Answers.{Plan, plan, at_first}
use Rattle.definition_laws.specs.Accepted.{Known, accepts}
use Rattle.definition_laws.specs.Plans.{Planning, checked, plan_known}
use Rattle.rows_model.specs.Row.{bytes}
use Rattle.rows_model.proofs.RowLaws.{bytes_trees}
use Rattle.finish_arrays.specs.TextSizes.{bytes_any}
use Rattle.read_element_table.specs.Filled.{Tells, spelled_spelt, filled_tells}
use Rattle.read_layout.specs.Layout.{arrays_at}
use Rattle.read_layout.specs.declared.Layout.{Layout}
use Rattle.read_batch.specs.Accepting.{Parts, accepted_parts}
use Rattle.refusals.specs.declared.Refusal.{Refusal}
use Rattle.read_batch.specs.Leaving.{Leaves, Judged}
use Rattle.run_prepare.specs.Parts.{notes_in}
use Rattle.run_model.specs.Store.{held_note, store}
use Rattle.run_execute.specs.Standing.{Begun}
use Rattle.run_execute.specs.Running.{TextLength}

-- lines 2 to 7 accept the batch b: its layout is l, and the words t and s tell of its elements
pub record LaidOut (b : List ℕ) (l : Layout) (t s : List ℕ) : Type 0 where
  pub before : List ℕ
  pub before_rows : List ℕ
  pub leaves : Leaves b l before before_rows t s
  pub long : 16384 ≤ length before
  pub long_rows : 6147 ≤ length before_rows

-- as lines 2 to 7 leave it
pub judged_laid : {b t₀ s₀ t s : List ℕ} {r : Result Layout Refusal} → Judged b t₀ s₀ t s r → (l : Layout) → r ≡ Ok l → 16384 ≤ length t₀ → 6147 ≤ length s₀ → LaidOut b l t s
judged_laid {t₀ = t₀} {s₀ = s₀} J l e lt ls = record { before = t₀; before_rows = s₀; leaves = J.left l e; long = lt; long_rows = ls }

module _ {b : List ℕ} {l : Layout} {t₀ s₀ t s : List ℕ} (v : Leaves b l t₀ s₀ t s) where
  pub known : Known b v.what
  known = accepts b v.what v.accepted

  parts : Parts (arrays_at l b) v.what
  parts = accepted_parts b l v.what v.laid v.accepted

  -- the words tell of the batch's trees
  pub tells : 8 * l.sizes.elements ≤ length t₀ → 3 * (l.sizes.elements + 1) ≤ length s₀ → Tells (arrays_at l b) v.what.trees l.sizes.elements t s
  unfolding arrays_at
  tells lt ls = filled_tells (arrays_at l b) b l.kinds l.measures l.sizes.elements refl refl parts.trees v.filled v.within.limits.elements lt ls

  -- the batch states how long the text of its trees' rows is
  pub text_stated : 16384 ≤ length t₀ → 6147 ≤ length s₀ → TextLength l.sizes.elements s l.sizes.text
  unfolding arrays_at
  text_stated lt ls text =
      let few = v.within.limits.elements in
      let ts = v.what.trees in
      let w = tells (omega (arith, few)) (omega (arith, few)) in
      let spells = spelled_spelt (arrays_at l b) ts parts.trees in
      omega (
        arith,
        v.within.text,
        length-drop l.text b,
        ap length spells.text,
        bytes_trees (forest ts),
        ap bytes w.rows_told_lem,
        bytes_any text (drop l.text b) (take (3 * (l.sizes.elements + 1)) s),
      )

  module _ (h : Choices) (p : Plan) (e : plan h v.what ≡ gives p) where
    pub planned : Planning v.what p
    planned = plan_known v.what (checked b v.what known) h p e

    pub first_notes : (store (at_first v.what p)).notes ≡ map (held_note (node 2147483648 (forest v.what.trees))) p.notes
    unfolding at_first begin store
    first_notes = refl

    -- and `first` is the plan's notes: there the run begins
    unfoldable pub begun : (first : List ℕ) → notes_in first ≡ (store (at_first v.what p)).notes → 16384 ≤ length t₀ → 6147 ≤ length s₀ → 6147 ≤ length s → length first ≤ 768
        → Begun l.sizes.elements t s first
    unfolding arrays_at
    begun first n lt ls ls' lf =
        let L = v.within.limits in
        let w = tells (omega (arith, L.elements)) (omega (arith, L.elements)) in
        record {
          text = drop l.text b;
          trees = v.what.trees;
          notes = p.notes;
          table_told = w.table_told_lem;
          rows_told = w.rows_told_lem;
          notes_told = n ∙ first_notes;
          noted = subst (λ (T : Table). All (λ n. (e : ℕ) × (e < length T) × (n.path ≡ (row T e).path)) p.notes) known.table planned.noted;
          some = omega (arith, known.roots, known.limits.some_tree);
          worded = known.spells.worded;
          shallow = known.shallow;
          written = omega (arith, ap length known.spells.written, known.long.text, known.limits.text);
          formed = w.wellformed.lines;
          long = omega (arith, L.elements);
          few_notes = lf;
        }
