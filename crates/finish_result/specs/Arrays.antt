-- The arrays written one behind another, in two stages; one word of each note as an array, and one part of each changed element; and that both stages write the result as bytes.
-- Assumes nothing.
use Rattle.std.proofs.Math.Path.{◌≡◌, refl, sym, ap}
use Rattle.std.proofs.Common.{◌∙◌, arith, get_or-drop}
use mathlib.Core.List.{List, [], ◌∷◌, map, flat_map}
use Prim.Native.Nat.{ℕ, zero, suc, ◌+◌, ◌*◌, ◌/◌, ◌^◌, ◌≤◌, ◌<◌}
use Rattle.std.proofs.Math.ListN.{length, length-map}
use Rattle.std.specs.Prelude.{get_or, drop}
use Rattle.std.proofs.Math.Seq.{paste}
use Rattle.definition.specs.Words.{written}
use Rattle.definition.specs.Finishing.{Result, six_sizes, encoded}
use Rattle.definition_laws.specs.Basics.{get_d_map}
use Rattle.rows_model.specs.Row.{Row, kind, measure, own, triples}
use Rattle.rows_model.proofs.Words.{length_triples}
use Rattle.run_model.specs.Store.{HeldNote, HeldChanged}
use Rattle.run_annotations.specs.Changed.{changed_of}
use Rattle.run_annotations.specs.Notes.{note_words, note_of, notes_of, note_at, length_notes_of, note_among}
use Rattle.finish_arrays.specs.Sweep.{elements_over, Counts}
use Rattle.finish_arrays.specs.Encoding.{Sized, encoded_length, encoded_written}
use Rattle.finish_result.specs.InTree.{result_in}

-- ── One word of each note ───────────────────────────────────────────────────────────────────────────────────

-- word j of each note that some words tell
unfoldable pub note_column : ℕ → List ℕ → List ℕ
note_column j w = map (λ n. get_or (note_words n) j 0) (notes_of (length w / 3) w)

pub length_column : (j : ℕ) (w : List ℕ) → length (note_column j w) ≡ length w / 3
unfolding note_column
length_column j w = length-map (notes_of (length w / 3) w) (λ n. get_or (note_words n) j 0) ∙ length_notes_of (length w / 3) w

pub column_at : (j : ℕ) (w : List ℕ) (i : ℕ) → j < 3 → i < length w / 3 → get_or (note_column j w) i 0 ≡ get_or w (3 * i + j) 0
unfolding note_column note_words note_at note_of
column_at j w i h b =
    let z : HeldNote = note_at w i in
    get_d_map (λ n. get_or (note_words n) j 0) (notes_of (length w / 3) w) i 0 z (omega (arith, length_notes_of (length w / 3) w))
    ∙ (ap (λ n. get_or (note_words n) j 0) (note_among w (length w / 3) i z b) ∙ (word_of j h ∙ get_or-drop (3 * i) w j 0))
  where
    word_of : (j : ℕ) → j < 3 → get_or (note_words (note_at w i)) j 0 ≡ get_or (drop (3 * i) w) j 0
    word_of zero h = refl
    word_of (suc zero) h = refl
    word_of (suc (suc zero)) h = refl
    word_of (suc (suc (suc j))) h = absurd (omega arith)

-- ── One part of each changed element ────────────────────────────────────────────────────────────────────────

-- of each changed element that some words tell, one to a word
unfoldable pub changed_column : (HeldChanged → ℕ) → List ℕ → List ℕ
changed_column f w = map f (map changed_of w)

-- their numbers
abbrev pub element_column : List ℕ → List ℕ
element_column w = changed_column (λ c. c.row) w

-- and the rule numbers
abbrev pub rule_column : List ℕ → List ℕ
rule_column w = changed_column (λ c. c.rule) w

module _ (f : HeldChanged → ℕ) (w : List ℕ) where
  pub length_parts : length (changed_column f w) ≡ length w
  unfolding changed_column
  length_parts = length-map (map changed_of w) f ∙ length-map w changed_of

  pub part_at_lem : (i : ℕ) → i < length w → get_or (changed_column f w) i 0 ≡ f (changed_of (get_or w i 0))
  unfolding changed_column
  part_at_lem i h = get_d_map f (map changed_of w) i 0 (changed_of 0) (omega (arith, length-map w changed_of)) ∙ ap f (get_d_map changed_of w i (changed_of 0) 0 h)

-- ── The arrays, in two stages ───────────────────────────────────────────────────────────────────────────────

-- the sizes, then the kinds and measures of n elements
unfoldable pub front_over : List ℕ → List ℕ → List ℕ → ℕ → List ℕ → List ℕ
front_over sizes kinds measures n d = elements_over 24 kinds measures n (paste d 0 (written sizes) 24)

-- the front of a tree's result over d: the first size is how many times an element was read, the others are `sizes`
pub record Front (tree sizes d l : List ℕ) (reads : ℕ) : Type 0 where
  pub count : Counts tree reads
  pub arrays : (text : List ℕ) → l ≡ front_over (reads ∷ sizes) (map kind (triples text tree)) (map measure (triples text tree)) (length tree / 3) d

-- from `at` on the numbers and rules of c changed elements, then the numbers and elements of m notes
unfoldable pub arrays_over : ℕ → List ℕ → List ℕ → ℕ → List ℕ → List ℕ → ℕ → List ℕ → List ℕ
arrays_over at elements rules c numbers noted m d =
    paste (paste (paste (paste d at (written elements) (4 * c)) (at + 4 * c) (written rules) (4 * c)) (at + 8 * c) (written numbers) (4 * m)) (at + 8 * c + 4 * m) (written noted) (4 * m)

-- what the words of changed elements and notes tell, so written, and the text behind it
unfoldable pub rest_over : ℕ → List ℕ → List ℕ → List ℕ → List ℕ → List ℕ
rest_over at changed notes text d =
    let c = length changed in
    let m = length notes / 3 in
    paste (arrays_over at (element_column changed) (rule_column changed) c (note_column 1 notes) (note_column 0 notes) m d) (at + 8 * c + 8 * m) text (length text)

-- the result that words tell: the new tree's, one for each changed element in order, and three for each note in order
abbrev pub told_result : ℕ → ℕ → List ℕ → List ℕ → List ℕ → List ℕ → Result
told_result discarded climbs tree text changed notes = result_in discarded climbs (triples text tree) (map changed_of changed) (notes_of (length notes / 3) notes)

-- both stages write the result as bytes
module _ (d tree text changed notes : List ℕ) (discarded climbs : ℕ) {size : ℕ} (p : (size ≡ length (flat_map own (triples text tree))) × (size < 2 ^ 32)) where
  elements : (f : Row → ℕ) → length (map f (triples text tree)) ≡ length tree / 3
  elements f = length-map (triples text tree) f ∙ length_triples text tree

  annotated : (f : HeldNote → ℕ) → length (map f (notes_of (length notes / 3) notes)) ≡ length notes / 3
  annotated f = length-map (notes_of (length notes / 3) notes) f ∙ length_notes_of (length notes / 3) notes

  recorded : (f : HeldChanged → ℕ) → length (map f (map changed_of changed)) ≡ length changed
  recorded f = length-map (map changed_of changed) f ∙ length-map changed changed_of

  sized : Sized (told_result discarded climbs tree text changed notes) (length tree / 3) (length changed) (length notes / 3)
  unfolding result_in
  sized = record {
    kinds = elements kind;
    measures = elements measure;
    changed = recorded (λ c. c.row);
    rules = recorded (λ c. c.rule);
    numbers = annotated (λ n. n.number);
    noted = annotated (λ n. n.row);
  }

  pub whole_length : 24 + 8 * (length tree / 3) + 8 * length changed + 8 * (length notes / 3) + size ≡ length (encoded (told_result discarded climbs tree text changed notes))
  unfolding result_in
  whole_length =
      sym
      (encoded_length (told_result discarded climbs tree text changed notes)
      ∙ omega (arith, elements kind, elements measure, recorded (λ c. c.row), recorded (λ c. c.rule), annotated (λ n. n.number), annotated (λ n. n.row)))

  pub whole_written : {reads : ℕ} {a h : List ℕ} → length (encoded (told_result discarded climbs tree text changed notes)) ≤ length d
      → Front tree (size ∷ length changed ∷ length notes / 3 ∷ discarded ∷ climbs ∷ []) d a reads
      → h ≡ rest_over (24 + 8 * reads) changed notes (flat_map own (triples text tree)) a
      → h ≡ paste d 0 (encoded (told_result discarded climbs tree text changed notes)) (length (encoded (told_result discarded climbs tree text changed notes)))
  unfolding result_in front_over elements_over rest_over arrays_over changed_column note_column note_words six_sizes
  whole_written {reads} {a} {h} room f r =
      let R : Result = told_result discarded climbs tree text changed notes in
      let n : ℕ = length tree / 3 in
      let m : ℕ = length notes / 3 in
      let six : ◌≡◌ {A = List ℕ} (reads ∷ size ∷ length changed ∷ m ∷ discarded ∷ climbs ∷ []) (six_sizes R) = rw (f.count.rows, elements kind, recorded (λ c. c.row), annotated (λ n. n.number), p.0) in
      encoded_written R d n (length changed) m room sized (ap (λ s. paste d 0 (written s) 24) six) refl (f.arrays text) refl refl refl refl
      (r ∙ ap (λ e. rest_over (24 + 8 * e) changed notes (flat_map own (triples text tree)) a) f.count.rows)
