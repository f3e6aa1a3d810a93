-- The arrays, and the answer.
-- Assumes nothing.
use mathlib.Core.Path.{◌≡◌, ap, ◌∙◌}
use mathlib.Core.List.{List, [], ◌∷◌, map, flat_map}
use Prim.Native.Nat.{ℕ, ◌+◌, ◌*◌, ◌/◌, ◌^◌, ◌≤◌, ◌<◌}
use native.Mathlib.Omega.{arith}
use lib.ListN.{length, length-map}
use lib.Seq.{paste, length-paste}
use Rattle.definition.specs.Words.{written}
use Rattle.definition.specs.Finishing.{encoded}
use Rattle.words.specs.Bytes.{length_written}
use Rattle.words.specs.Parts.{paste_swap}
use Rattle.rows_model.specs.Row.{kind, measure, own, triples}
use Rattle.rows_model.proofs.Words.{length_triples}
use Rattle.finish_arrays.specs.Sweep.{elements_over, Swept}
use Rattle.std.specs.Prelude.{Ok, Err}
use Rattle.refusals.specs.declared.Refusal.TheVariants.{ShortResult}
use Rattle.finish_result.specs.Answered.{Answered, answered_short, answered_bytes}
use Rattle.finish_result.specs.Arrays.{note_column, element_column, rule_column, front_over, Front, arrays_over, rest_over, told_result, whole_length, whole_written}

-- ── The arrays ──────────────────────────────────────────────────────────────────────────────────────────────

-- the sizes, written last, go below what the sweep has written
pub front_written : (tree sizes d : List ℕ) {reads : ℕ} {a b : List ℕ} → length sizes ≡ 5 → 24 + 8 * (length tree / 3) ≤ length d → Swept tree 24 d a reads → b ≡ paste a 0 (written (reads ∷ sizes)) 24 → Front tree sizes d b reads
unfolding front_over elements_over
front_written tree sizes d {reads} {a} {b} five room s e = record { count = s.count; arrays = go }
  where
    go : (t : List ℕ) → b ≡ front_over (reads ∷ sizes) (map kind (triples t tree)) (map measure (triples t tree)) (length tree / 3) d
    go t =
        let n : ℕ = length tree / 3 in
        let six : List ℕ = written (reads ∷ sizes) in
        let K : List ℕ = written (map kind (triples t tree)) in
        let M : List ℕ = written (map measure (triples t tree)) in
        let long : length six ≡ 24 = length_written (reads ∷ sizes) ∙ omega arith in
        let k : length K ≡ 4 * n = length_written (map kind (triples t tree)) ∙ omega (arith, length-map (triples t tree) kind, length_triples t tree) in
        let c : length (paste d 24 K (4 * n)) ≡ length d = length-paste d 24 K (4 * n) (omega arith) (omega arith) in
        e
        ∙ (ap (λ x. paste x 0 six 24) (s.arrays t)
        ∙ (paste_swap (paste d 24 K (4 * n)) six M 0 24 (24 + 4 * n) (4 * n) (omega arith) (omega arith) (omega arith)
        ∙ ap (λ x. paste x (24 + 4 * n) M (4 * n)) (paste_swap d six K 0 24 24 (4 * n) (omega arith) (omega arith) (omega arith))))

pub arrays_written : (at : ℕ) (changed notes d : List ℕ) {a b c e : List ℕ} → a ≡ paste d at (written (element_column changed)) (4 * length changed)
    → b ≡ paste a (at + 4 * length changed) (written (rule_column changed)) (4 * length changed)
    → c ≡ paste b (at + 8 * length changed) (written (note_column 1 notes)) (4 * (length notes / 3))
    → e ≡ paste c (at + 8 * length changed + 4 * (length notes / 3)) (written (note_column 0 notes)) (4 * (length notes / 3))
    → e ≡ arrays_over at (element_column changed) (rule_column changed) (length changed) (note_column 1 notes) (note_column 0 notes) (length notes / 3) d
unfolding arrays_over
arrays_written at changed notes d p q r s = s ∙ rw (r, q, p)

pub rest_written : (at : ℕ) (changed notes tree text d : List ℕ) {a b : List ℕ} → a ≡ arrays_over at (element_column changed) (rule_column changed) (length changed) (note_column 1 notes) (note_column 0 notes) (length notes / 3) d
    → b ≡ paste a (at + 8 * length changed + 8 * (length notes / 3)) (flat_map own (triples text tree)) (length (flat_map own (triples text tree)))
    → b ≡ rest_over at changed notes (flat_map own (triples text tree)) d
unfolding rest_over
rest_written at changed notes tree text d p q = q ∙ rw p

-- ── The answer ──────────────────────────────────────────────────────────────────────────────────────────────

module _ (d tree text changed notes : List ℕ) (discarded climbs : ℕ) {size : ℕ} (p : (size ≡ length (flat_map own (triples text tree))) × (size < 2 ^ 32)) where
  pub result_short : {total : ℕ} → total ≡ 24 + 8 * (length tree / 3) + 8 * length changed + 8 * (length notes / 3) + size → length d < total → Answered d (told_result discarded climbs tree text changed notes) d (Err ShortResult)
  result_short e h = answered_short (omega (arith, whole_length d tree text changed notes discarded climbs p))

  pub result_written : {total reads : ℕ} {a h : List ℕ} → total ≡ 24 + 8 * (length tree / 3) + 8 * length changed + 8 * (length notes / 3) + size → total ≤ length d
      → Front tree (size ∷ length changed ∷ length notes / 3 ∷ discarded ∷ climbs ∷ []) d a reads
      → h ≡ rest_over (24 + 8 * reads) changed notes (flat_map own (triples text tree)) a
      → Answered d (told_result discarded climbs tree text changed notes) h (Ok total)
  result_written t h f r =
      let e = t ∙ whole_length d tree text changed notes discarded climbs p in
      let room : length (encoded (told_result discarded climbs tree text changed notes)) ≤ length d = omega arith in
      answered_bytes e room (whole_written d tree text changed notes discarded climbs p room f r)
