-- What lines 2 to 7 leave of an accepted batch, and a memory's own lines of the memory, is what 22 asks.
-- Assumes nothing.
use Rattle.std.specs.Prelude.{◌≡◌, refl, Bool, List, ℕ, ◌+◌, ◌*◌, ◌≤◌, ltb, length, drop}
use Rattle.std.proofs.Common.{sym, ◌∙◌, subst, arith}
use Rattle.std.proofs.Math.Path.{ap}
use Rattle.std.proofs.Math.ListN.{get_or}
use borrow.Author.Tests.{ltb-false}
use Rattle.orders.specs.ListLaws.{either_false}
use Rattle.definition.specs.Basics.{gives, ◌>>=◌}
use Rattle.definition.specs.Words.{word}
use Rattle.definition.specs.Batch.{Batch}
use Rattle.definition_laws.specs.Answers.{gives_inj}
use Rattle.definition_laws.specs.Accepted.{accepts}
use Rattle.definition_laws.specs.Spelling.{Spells}
use Rattle.read_element_table.specs.Filled.{filled_tells}
use Rattle.read_layout.specs.Layout.{arrays_at, batch_laid}
use Rattle.read_layout.specs.declared.Layout.{Layout}
use Rattle.read_batch.specs.Accepting.{accepted_parts}
use Rattle.read_batch.specs.Leaving.{Leaves}
use Rattle.check_laws.specs.Check.{Flat}
use Rattle.series_laws.specs.Memory.{Memory, same_tree}
use Rattle.series_laws.specs.Lent.{Lent, slot_words, tree_in, tree_bytes, memory_in, cut_off, lent}
use Rattle.series_laws.proofs.Series.{lent_passed}
use Rattle.series_tree.specs.Old.{Read}

-- the slices held t₀ and s₀ before: long enough for the batch's elements
pub leaves_read : {b : List ℕ} {l : Layout} {t₀ s₀ t s : List ℕ} → Leaves b l t₀ s₀ t s → 8 * l.sizes.elements ≤ length t₀ → 3 * (l.sizes.elements + 1) ≤ length s₀ → 3 * (l.sizes.elements + 1) ≤ length s → Read b l s
unfolding arrays_at ◌>>=◌
leaves_read {b} {l} {t₀} {s₀} {t} {s} v lt ls long =
    let k = accepts b v.what v.accepted in
    let same : k.arrays ≡ arrays_at l b = gives_inj (sym k.read ∙ (batch_laid b ∙ rw v.laid)) in
    let P = accepted_parts b l v.what v.laid v.accepted in
    let w = filled_tells (arrays_at l b) b l.kinds l.measures l.sizes.elements refl refl P.trees v.filled v.within.limits.elements lt ls in
    record {
      what = v.what;
      accepts = v.accepted;
      spells = subst (λ (c : Batch). Spells v.what.trees c.kinds c.measures c.text) same k.spells;
      text = drop l.text b;
      rows = w.rows_told_lem;
      kinds = v.within.kinds;
      measures = v.within.measures;
      text_from = omega (arith, v.within.text);
      long = long;
      few = v.within.limits.elements;
    }

-- ── The memory ──────────────────────────────────────────────────────────────────────────────────────────────

module _ (most : ℕ) (l : Lent) (m : Memory) (passes : lent most l ≡ gives m) where
  -- its tree stands within its slice
  pub lent_within : (8 ≤ length l.tree) × (8 + 8 * word l.tree + word (drop 4 l.tree) ≤ length l.tree)
  unfolding cut_off tree_bytes
  lent_within =
      let P = lent_passed most l m passes in
      let (a, b) = either_false (ltb (length l.tree) (tree_bytes (word l.tree) (word (drop 4 l.tree)))) (ltb (length l.bookmarks) (1 + slot_words * get_or l.bookmarks 0 0)) P.whole in
      (ltb-false (length l.tree) 8 P.sizes, ltb-false (length l.tree) (tree_bytes (word l.tree) (word (drop 4 l.tree))) a)

  -- what is compared with it is compared with the memory's tree: the test of 22
  pub lent_same : {r : Bool} (f : Flat) → r ≡ same_tree f (tree_in (word l.tree) (word (drop 4 l.tree)) l.tree) → r ≡ same_tree f m.tree
  unfolding memory_in
  lent_same f q = q ∙ ap (λ (m : Memory). same_tree f m.tree) (lent_passed most l m passes).is
