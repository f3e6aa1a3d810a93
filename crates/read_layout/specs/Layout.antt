-- Lines 2, 3 and 4: the sizes of a batch, and where each of its arrays stands.
-- Assumes nothing.
use Rattle.std.specs.Prelude.{Bool, true, false, not, List, ◌≡◌, refl, ℕ, ◌+◌, ◌*◌, ◌≤◌, length, drop, ltb, eqb}
use Rattle.std.proofs.Math.Path.{sym}
use Rattle.std.proofs.Common.{ap, arith, drop-drop}
use borrow.Author.Tests.{ltb-false, eqb-true, not-false}
use Rattle.definition.specs.Basics.{Answer, gives, ◌>>=◌, refuse}
use Rattle.definition.specs.Batch as def
use Rattle.definition.specs.Batch.{Batch, sizes, beyond, whole, arrays, batch}
use Rattle.definition.specs.Words.{words}
use Rattle.definition_laws.specs.Answers.{gives_inj, both_given, not_wrong}
use Rattle.definition_laws.specs.Accepted.{Limited, limited}
use Rattle.read_layout.specs.declared.Sizes.{Sizes}
use Rattle.read_layout.specs.declared.Layout.{Layout}

-- the sizes, as the definition has them
abbrev pub sizes_of : Sizes → def.Sizes
sizes_of s = record {
  trees = s.trees;
  elements = s.elements;
  text = s.text;
  calls = s.calls;
  listed = s.listed;
  mappings = s.mappings;
  notes = s.notes;
}

-- at which byte each array starts
unfoldable pub layout_of : def.Sizes → Layout
layout_of s =
    let measures = 28 + 4 * s.elements in
    let calls = measures + 4 * s.elements in
    let targets = calls + 4 * s.calls in
    let listed = targets + 4 * s.calls in
    let inputs = listed + 4 * s.listed in
    let outputs = inputs + 4 * s.mappings in
    let noted = outputs + 4 * s.mappings in
    let numbers = noted + 4 * s.notes in
    record {
      sizes = record {
        trees = s.trees;
        elements = s.elements;
        text = s.text;
        calls = s.calls;
        listed = s.listed;
        mappings = s.mappings;
        notes = s.notes;
      };
      kinds = 28;
      measures = measures;
      words = calls;
      targets = targets;
      list = listed;
      inputs = inputs;
      outputs = outputs;
      noted = noted;
      numbers = numbers;
      text = numbers + 4 * s.notes;
    }

-- the arrays that stand where a layout says
unfoldable pub arrays_at : Layout → List ℕ → Batch
arrays_at l b =
    let s = l.sizes in
    record {
      trees = s.trees;
      kinds = words s.elements (drop l.kinds b);
      measures = words s.elements (drop l.measures b);
      calls = words s.calls (drop l.words b);
      targets = words s.calls (drop l.targets b);
      listed = words s.listed (drop l.list b);
      inputs = words s.mappings (drop l.inputs b);
      outputs = words s.mappings (drop l.outputs b);
      noted = words s.notes (drop l.noted b);
      numbers = words s.notes (drop l.numbers b);
      text = drop l.text b;
    }

-- line 4, of a batch of n bytes
unfoldable pub ends_at : ℕ → def.Sizes → Answer Layout
ends_at n s = refuse 4 (not (eqb n (whole s))) >>= (λ _. gives (layout_of s))

-- lines 2, 3 and 4, in order
unfoldable pub laid : List ℕ → Answer Layout
laid b = batch b >>= (λ _. gives (layout_of (sizes b)))

-- ── What an accepted layout guarantees ──────────────────────────────────────────────────────────────────────

-- each array stands within the batch, and the text ends it
pub record Within (b : List ℕ) (l : Layout) : Type 0 where
  pub limits : Limited (sizes_of l.sizes)
  pub kinds : l.kinds + 4 * l.sizes.elements ≤ length b
  pub measures : l.measures + 4 * l.sizes.elements ≤ length b
  pub words : l.words + 4 * l.sizes.calls ≤ length b
  pub targets : l.targets + 4 * l.sizes.calls ≤ length b
  pub list : l.list + 4 * l.sizes.listed ≤ length b
  pub inputs : l.inputs + 4 * l.sizes.mappings ≤ length b
  pub outputs : l.outputs + 4 * l.sizes.mappings ≤ length b
  pub noted : l.noted + 4 * l.sizes.notes ≤ length b
  pub numbers : l.numbers + 4 * l.sizes.notes ≤ length b
  pub text : l.text + l.sizes.text ≡ length b

module _ (b : List ℕ) (l : Layout) (q : laid b ≡ gives l) where
  -- what lines 2 to 4 accept
  pub given : (28 ≤ length b) × (beyond (sizes b) ≡ false) × (length b ≡ whole (sizes b)) × (l ≡ layout_of (sizes b))
  unfolding laid batch
  given =
      let (_, accepted, same) = both_given (batch b) (λ _. gives (layout_of (sizes b))) q in
      let (_, two, rest) = both_given (refuse 2 (ltb (length b) 28)) _ accepted in
      let (_, three, rest) = both_given (refuse 3 (beyond (sizes b))) _ rest in
      let (_, four, rest) = both_given (refuse 4 (not (eqb (length b) (whole (sizes b))))) _ rest in (
        ltb-false (length b) 28 (not_wrong 2 (ltb (length b) 28) two),
        not_wrong 3 (beyond (sizes b)) three,
        eqb-true (length b) (whole (sizes b)) (not-false _ (not_wrong 4 _ four)),
        sym (gives_inj same),
      )

  pub within : Within b l
  unfolding layout_of whole
  within =
      let g = given in
      rw g.3 (record {
        limits = limited (sizes b) g.1;
        kinds = omega arith;
        measures = omega arith;
        words = omega arith;
        targets = omega arith;
        list = omega arith;
        inputs = omega arith;
        outputs = omega arith;
        noted = omega arith;
        numbers = omega arith;
        text = omega arith;
      })

-- the arrays stand where the layout says
arrays_placed : (s : def.Sizes) (b : List ℕ) → arrays s b ≡ arrays_at (layout_of s) b
unfolding arrays arrays_at layout_of
arrays_placed s b = simp drop-drop

pub batch_laid : (b : List ℕ) → batch b ≡ (laid b >>= (λ l. gives (arrays_at l b)))
unfolding laid batch ◌>>=◌ refuse
batch_laid b = go (ltb (length b) 28) (beyond (sizes b)) (not (eqb (length b) (whole (sizes b))))
  where
    given : Answer Batch
    given = gives (arrays (sizes b) b)

    judged : Bool → Bool → Bool → Answer Batch
    judged t u v = refuse 2 t >>= (λ _. refuse 3 u >>= (λ _. refuse 4 v >>= (λ _. given)))

    go : (t u v : Bool) → judged t u v ≡ (judged t u v >>= (λ _. gives (layout_of (sizes b))) >>= (λ l. gives (arrays_at l b)))
    go true u v = refl
    go false true v = refl
    go false false true = refl
    go false false false = ap gives (arrays_placed (sizes b) b)
