-- Lines 5, 6, 16 and 7: each answer, from the tests that led there.
-- Assumes nothing.
use mathlib.Core.Path.{◌≡◌, sym, ap, ◌∙◌}
use mathlib.Core.Bool.{Bool, true, false, not}
use mathlib.Core.List.{List, zip}
use Prim.Native.Nat.{ℕ, ◌≤◌}
use native.Mathlib.Omega.{arith}
use lib.ListN.{length}
use borrow.Author.Tests.{not-true, not-false}
use Rattle.std.specs.Prelude.{Result, Ok, Err}
use Rattle.refusals.specs.Numbers.{number, answered}
use Rattle.refusals.specs.declared.Refusal.{Refusal}
use Rattle.refusals.specs.declared.Refusal.TheVariants.{Spelling, Call, Listed, Name}
use Rattle.definition.specs.Basics.{gives, ◌>>=◌, refuse, any}
use Rattle.definition.specs.Batch.{Batch}
use Rattle.definition.specs.Refusals.{wrong_mapping}
use Rattle.read_element_table.specs.View.{view}
use Rattle.read_spelling.specs.Spelling.{accepts}
use Rattle.read_element_table.specs.Filling.{Filled}
use Rattle.read_element_table.specs.Wellformed.{Wellformed}
use Rattle.read_element_table.specs.Told.{length_view}
use Rattle.read_layout.specs.Layout.{Within, within, laid, arrays_at}
use Rattle.read_layout.specs.declared.Layout.{Layout}
use Rattle.read_names.specs.Called.{calls_fit, word_too_many}
use Rattle.read_names.specs.Noted.{note_wrong, note_told}
use Rattle.read_batch.specs.Accepting.{named, judged_unlaid}
use Rattle.read_batch.specs.Leaving.{elements_by, Judged, judged_refused, refused_5, filled_formed, judged_left}

module _ (b : Batch) (n : ℕ) (w s : List ℕ) (l : Layout) (t : Bool) (et : t ≡ calls_fit (view n w s) (zip b.calls b.targets) b.listed) where
  pub wrong_calls : t ≡ false → answered (Err Call) ≡ named b (view n w s) l
  unfolding answered number named ◌>>=◌ refuse
  wrong_calls q = rw (← et, q)

  module _ (q : t ≡ true) (m : Bool) (em : m ≡ not (any word_too_many b.calls)) where
    pub long_lists : m ≡ false → answered (Err Listed) ≡ named b (view n w s) l
    unfolding answered number named ◌>>=◌ refuse
    long_lists k = rw (← et, q, not-false (any word_too_many b.calls) (sym em ∙ k))

    module _ (k : m ≡ true) (u : Bool) (eu : u ≡ not (any (wrong_mapping (view n w s)) (zip b.inputs b.outputs))) where
      no_list : any word_too_many b.calls ≡ false
      no_list = not-true _ (sym em ∙ k)

      pub wrong_mappings : u ≡ false → answered (Err Name) ≡ named b (view n w s) l
      unfolding answered number named ◌>>=◌ refuse
      wrong_mappings p = rw (← et, q, no_list, not-false (any (wrong_mapping (view n w s)) (zip b.inputs b.outputs)) (sym eu ∙ p))

      module _ (p : u ≡ true) (v : Bool) (ev : v ≡ not (any (note_wrong n) (zip b.noted b.numbers))) where
        no_mapping : any (wrong_mapping (view n w s)) (zip b.inputs b.outputs) ≡ false
        no_mapping = not-true _ (sym eu ∙ p)

        pub wrong_notes : v ≡ false → answered (Err Name) ≡ named b (view n w s) l
        unfolding answered number named ◌>>=◌ refuse
        wrong_notes z = rw (← et, q, no_list, no_mapping, note_told (view n w s) n (length_view n w s), not-false (any (note_wrong n) (zip b.noted b.numbers)) (sym ev ∙ z))

        pub none_wrong : v ≡ true → answered (Ok l) ≡ named b (view n w s) l
        unfolding answered number named ◌>>=◌ refuse
        none_wrong z = rw (← et, q, no_list, no_mapping, note_told (view n w s) n (length_view n w s), not-true (any (note_wrong n) (zip b.noted b.numbers)) (sym ev ∙ z))

-- ── Line 5 ──────────────────────────────────────────────────────────────────────────────────────────────────

module _ (b : List ℕ) (l : Layout) (t : Bool) (et : t ≡ accepts l.sizes.trees l.sizes.text (elements_by l b)) where
  pub wrong_elements : (t₀ s₀ t₁ s₁ : List ℕ) → laid b ≡ gives l → t ≡ false → Judged b t₀ s₀ t₁ s₁ (Err Spelling)
  unfolding number
  wrong_elements t₀ s₀ t₁ s₁ q p = judged_refused b t₀ s₀ t₁ s₁ Spelling (refused_5 b l q (sym et ∙ p))

  module _ (q : laid b ≡ gives l) (p : t ≡ true) (t₀ s₀ t₁ s₁ : List ℕ) (f : Filled l.sizes.trees l.sizes.elements (elements_by l b) t₀ s₀ t₁ s₁) where
    pub may_judge : Within b l → 16384 ≤ length t₀ → 6147 ≤ length s₀ → Wellformed l.sizes.elements t₁ s₁
    may_judge w h k = filled_formed b l q (sym et ∙ p) t₀ s₀ t₁ s₁ f (omega (arith, w.limits.elements)) (omega (arith, w.limits.elements))

    pub judges : Within b l → 16384 ≤ length t₀ → 6147 ≤ length s₀ → (r : Result Layout Refusal) → answered r ≡ named (arrays_at l b) (view l.sizes.elements t₁ s₁) l → Judged b t₀ s₀ t₁ s₁ r
    judges w h k r g = judged_left b l q (sym et ∙ p) t₀ s₀ t₁ s₁ f r g (may_judge w h k)

-- ── Lines 2 to 4 ────────────────────────────────────────────────────────────────────────────────────────────

module _ (b : List ℕ) (o : Result Layout Refusal) (eo : answered o ≡ laid b) where
  pub unlaid : (e : Refusal) (t₀ s₀ t₁ s₁ : List ℕ) → o ≡ Err e → Judged b t₀ s₀ t₁ s₁ (Err e)
  unfolding answered
  unlaid e t₀ s₀ t₁ s₁ q = judged_refused b t₀ s₀ t₁ s₁ e (judged_unlaid b (number e) (sym eo ∙ ap answered q))

  pub is_laid : (l : Layout) → o ≡ Ok l → laid b ≡ gives l
  unfolding answered
  is_laid l e = sym eo ∙ ap answered e

  pub is_within : (l : Layout) → o ≡ Ok l → Within b l
  is_within l e = within b l (is_laid l e)
