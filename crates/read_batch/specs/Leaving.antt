-- What an accepted batch leaves: the element table, the rows, and where each array stands.
-- Assumes nothing.
use Rattle.std.specs.Prelude.{◌≡◌, true, List, ℕ, ◌+◌, ◌*◌, ◌≤◌, length, drop, Result, Ok, Err}
use Rattle.std.proofs.Math.Path.{refl, sym, ap}
use Rattle.std.proofs.Common.{◌∙◌, arith}
use Rattle.std.proofs.Math.Bool.{false}
use Rattle.std.proofs.Math.Option.{Option, none, some}
use Rattle.std.proofs.Math.ListN.{length-drop}
use Rattle.orders.specs.ListLaws.{bool_absurd, some_inj}
use Rattle.orders.specs.Tree.{Tree}
use Rattle.definition.specs.Basics.{refused, gives, is_some}
use Rattle.definition.specs.Elements.{Table, spelled, table}
use Rattle.definition.specs.Refusals.{Accepted, accepted}
use Rattle.words.specs.Bytes.{length_words}
use Rattle.definition_laws.specs.Answers.{gives_inj}
use Rattle.refusals.specs.Numbers.{number, answered}
use Rattle.refusals.specs.declared.Refusal.{Refusal}
use Rattle.read_element_table.specs.View.{view}
use Rattle.read_spelling.specs.Spelling.{elements_at, accepts}
use Rattle.read_spelling.specs.SpellingLaws.{accepts_spelled}
use Rattle.read_element_table.specs.Filling.{Filled}
use Rattle.read_element_table.specs.Filled.{elements_in, accepted as spells-trees, filled_view, filled_wellformed}
use Rattle.read_element_table.specs.Wellformed.{Wellformed}
use Rattle.read_layout.specs.Layout.{Within, within, laid, arrays_at}
use Rattle.read_layout.specs.declared.Layout.{Layout}
use Rattle.read_batch.specs.Accepting.{judged, judged_unspelled, judged_spelled, judged_given, accepted_parts, named}

-- the elements of a batch with this layout, each with kind word and measure
abbrev pub elements_by : Layout → List ℕ → List (ℕ × ℕ)
elements_by l b = elements_at b l.kinds l.measures l.sizes.elements

-- what an accepted batch with this layout leaves in the two slices, which held t₀ and s₀
pub record Leaves (b : List ℕ) (l : Layout) (t₀ s₀ t s : List ℕ) : Type 0 where
  pub laid : laid b ≡ gives l
  pub within : Within b l
  pub filled : Filled l.sizes.trees l.sizes.elements (elements_by l b) t₀ s₀ t s
  pub formed : Wellformed l.sizes.elements t s
  -- the definition accepts the batch, and the words tell its table
  pub what : Accepted
  pub accepted : accepted b ≡ gives what
  pub told : view l.sizes.elements t s ≡ what.table

-- THE PROMISE of lines 2 to 7
pub record Judged (b t₀ s₀ t s : List ℕ) (r : Result Layout Refusal) : Type 0 where
  pub answer : answered r ≡ judged b
  pub left : (l : Layout) → r ≡ Ok l → Leaves b l t₀ s₀ t s

-- ── Line 5 ──────────────────────────────────────────────────────────────────────────────────────────────────

module _ (b : List ℕ) (l : Layout) (q : laid b ≡ gives l) where
  long_kinds : length (arrays_at l b).kinds ≡ l.sizes.elements
  unfolding arrays_at
  long_kinds = length_words l.sizes.elements (drop l.kinds b)

  long_both : length (arrays_at l b).kinds ≡ length (arrays_at l b).measures
  unfolding arrays_at
  long_both = long_kinds ∙ sym (length_words l.sizes.elements (drop l.measures b))

  long_text : length (arrays_at l b).text ≡ l.sizes.text
  unfolding arrays_at
  long_text = omega (arith, length-drop l.text b, (within b l q).text)

  -- line 5 of the definition is that of the machine
  line_5 : accepts l.sizes.trees l.sizes.text (elements_by l b) ≡ is_some (spelled (arrays_at l b))
  unfolding arrays_at elements_at
  line_5 = ap (λ (k : ℕ). accepts l.sizes.trees k (elements_by l b)) (sym long_text) ∙ accepts_spelled (arrays_at l b) long_both

  pub refused_5 : accepts l.sizes.trees l.sizes.text (elements_by l b) ≡ false → judged b ≡ refused 5
  unfolding is_some
  refused_5 h = judged_unspelled b l q (go (spelled (arrays_at l b)) (sym line_5 ∙ h))
    where
      go : (o : Option (List (Tree ℕ))) → is_some o ≡ false → o ≡ none
      go none e = refl
      go (some ts) e = bool_absurd refl e

  module _ (h : accepts l.sizes.trees l.sizes.text (elements_by l b) ≡ true) where
    trees_there : (ts : List (Tree ℕ)) × (spelled (arrays_at l b) ≡ some ts)
    unfolding arrays_at elements_in elements_at
    trees_there = spells-trees (arrays_at l b) long_both (ap (λ (k : ℕ). accepts l.sizes.trees k (elements_by l b)) long_text ∙ h)

    ts : List (Tree ℕ)
    ts = trees_there.0

    module _ (t₀ s₀ t s : List ℕ) (f : Filled l.sizes.trees l.sizes.elements (elements_by l b) t₀ s₀ t s) where
      told : view l.sizes.elements t s ≡ table 0 0 ts
      unfolding arrays_at elements_in elements_at ts
      told = rw (f.words, f.rows) (rw long_kinds at (filled_view (arrays_at l b) ts trees_there.1 long_both t₀ s₀))

      pub filled_formed : 8 * l.sizes.elements ≤ length t₀ → 3 * (l.sizes.elements + 1) ≤ length s₀ → Wellformed l.sizes.elements t s
      unfolding arrays_at elements_in elements_at ts
      filled_formed lt ls =
          rw (f.words, f.rows)
          (rw long_kinds at (filled_wellformed (arrays_at l b) ts trees_there.1 long_both t₀ s₀ (omega (arith, long_kinds, (within b l q).limits.elements)) (omega (arith, long_kinds)) (omega (arith, long_kinds))))

      -- lines 6 and 7 answer for all
      pub judged_left : (r : Result Layout Refusal) → answered r ≡ named (arrays_at l b) (view l.sizes.elements t s) l → Wellformed l.sizes.elements t s → Judged b t₀ s₀ t s r
      unfolding ts answered
      judged_left r g w =
          let same : answered r ≡ judged b = g ∙ (ap (λ (T : Table). named (arrays_at l b) T l) told ∙ sym (judged_spelled b l q ts trees_there.1)) in
          record {
            answer = same;
            left = λ k e.
                let (is, a, accepts) = judged_given b k (sym same ∙ ap answered e) in
                let parts = accepted_parts b l a q accepts in
                let one : ts ≡ a.trees = some_inj (sym trees_there.1 ∙ parts.trees) in
                rw (gives_inj (sym is ∙ q))
                (record { laid = q; within = within b l q; filled = f; formed = w; what = a; accepted = accepts; told = told ∙ (ap (table 0 0) one ∙ sym parts.table) });
          }

-- a refusal leaves nothing to say of the slices
pub judged_refused : (b t₀ s₀ t s : List ℕ) (e : Refusal) → judged b ≡ refused (number e) → Judged b t₀ s₀ t s (Err e)
unfolding answered
judged_refused b t₀ s₀ t s e g = record { answer = sym g; left = λ l q. cc }
