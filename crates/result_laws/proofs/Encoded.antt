-- What is read out of bytes that begin with a result's is the result.
-- Assumes nothing.
use Rattle.std.specs.Prelude.{◌≡◌, get_or, take, drop}
use Rattle.std.proofs.Math.Path.{refl, ap}
use Rattle.std.proofs.Common.{sym, ◌∙◌, take_at}
use mathlib.Core.List.{List, [], ◌++◌, append_assoc, append-nil}
use Prim.Native.Nat.{ℕ, zero, suc, ◌+◌, ◌*◌, ◌<◌}
use native.Mathlib.Omega.{arith}
use Rattle.std.proofs.Math.ListN.{length, length-append}
use Rattle.std.proofs.Math.Seq.{drop_at}
use Rattle.definition.specs.Words.{word, words, written}
use Rattle.definition.specs.Finishing.{Result, six_sizes, encoded}
use Rattle.words.specs.Bytes.{words_written, written_append, length_written, get_d_words}
use Rattle.definition_laws.specs.Limits.{Within}
use Rattle.definition_laws.proofs.Limits.{encoded_length}
use Rattle.result_laws.proofs.Worded.{Words, Worded}
use Rattle.result_laws.specs.Decoded.{text_at, told, decoded}

-- seven lists joined, told from each
module _ (a b c d e f g : List ℕ) where
  from_3 : a ++ (b ++ (c ++ (d ++ (e ++ (f ++ g))))) ≡ (a ++ b) ++ (c ++ (d ++ (e ++ (f ++ g))))
  from_3 = simp append_assoc

  from_4 : a ++ (b ++ (c ++ (d ++ (e ++ (f ++ g))))) ≡ (a ++ b ++ c) ++ (d ++ (e ++ (f ++ g)))
  from_4 = simp append_assoc

  from_5 : a ++ (b ++ (c ++ (d ++ (e ++ (f ++ g))))) ≡ (a ++ b ++ c ++ d) ++ (e ++ (f ++ g))
  from_5 = simp append_assoc

  from_6 : a ++ (b ++ (c ++ (d ++ (e ++ (f ++ g))))) ≡ (a ++ b ++ c ++ d ++ e) ++ (f ++ g)
  from_6 = simp append_assoc

  from_7 : a ++ (b ++ (c ++ (d ++ (e ++ (f ++ g))))) ≡ (a ++ b ++ c ++ d ++ e ++ f) ++ (g ++ [])
  from_7 = simp (append_assoc, append-nil)

-- the array a behind the words p
part : (p a s text : List ℕ) (at n : ℕ) → Words a → at ≡ 4 * length p → n ≡ length a → words n (drop at (written (p ++ (a ++ s)) ++ text)) ≡ a
part p a s text at n h e f =
    rw (written_append p (a ++ s), append_assoc, drop_at (written p) (written (a ++ s) ++ text) at (length_written p ∙ sym e), written_append a s, append_assoc, f) (words_written a (written s ++ text) h)

-- bytes that begin with those of a result
module _ (r : Result) (bytes rest : List ℕ) (begin : bytes ≡ encoded r ++ rest) (w : Within r) where
  sizes_words : Words (six_sizes r)
  unfolding six_sizes
  sizes_words zero = omega (arith, w.elements)
  sizes_words (suc zero) = omega (arith, w.text)
  sizes_words (suc (suc zero)) = omega (arith, w.changed)
  sizes_words (suc (suc (suc zero))) = omega (arith, w.notes)
  sizes_words (suc (suc (suc (suc zero)))) = omega (arith, w.discarded)
  sizes_words (suc (suc (suc (suc (suc zero))))) = omega (arith, w.climbs)
  sizes_words (suc (suc (suc (suc (suc (suc i)))))) = omega arith

  -- all words of a result, from the sizes on
  all : List ℕ
  all = six_sizes r ++ (r.kinds ++ (r.measures ++ (r.changed ++ (r.rules ++ (r.numbers ++ r.noted)))))

  encoded_all : encoded r ≡ written all ++ r.text
  unfolding encoded all
  encoded_all = ap (λ ws. written ws ++ r.text) (simp append_assoc)

  bytes_all : bytes ≡ written all ++ (r.text ++ rest)
  bytes_all = begin ∙ (ap (λ (l : List ℕ). l ++ rest) encoded_all ∙ append_assoc (written all) r.text rest)

  pub sizes_read : words 6 bytes ≡ six_sizes r
  unfolding all six_sizes
  sizes_read = rw bytes_all (part [] (six_sizes r) (r.kinds ++ (r.measures ++ (r.changed ++ (r.rules ++ (r.numbers ++ r.noted))))) (r.text ++ rest) 0 6 sizes_words refl refl)

  size_at : (i : ℕ) → i < 6 → word (drop (4 * i) bytes) ≡ get_or (six_sizes r) i 0
  size_at i h = sym (get_d_words 6 bytes i h) ∙ ap (λ ws. get_or ws i 0) sizes_read

  -- the sizes, read one by one
  pub elements_read : word bytes ≡ length r.kinds
  unfolding six_sizes
  elements_read = size_at 0 (omega arith)

  pub text_read : word (drop 4 bytes) ≡ length r.text
  unfolding six_sizes
  text_read = size_at 1 (omega arith)

  pub changed_read : word (drop 8 bytes) ≡ length r.changed
  unfolding six_sizes
  changed_read = size_at 2 (omega arith)

  pub notes_read : word (drop 12 bytes) ≡ length r.numbers
  unfolding six_sizes
  notes_read = size_at 3 (omega arith)

  discarded_read : word (drop 16 bytes) ≡ r.discarded
  unfolding six_sizes
  discarded_read = size_at 4 (omega arith)

  climbs_read : word (drop 20 bytes) ≡ r.climbs
  unfolding six_sizes
  climbs_read = size_at 5 (omega arith)

  -- an array out of all words
  array_read : (p a s : List ℕ) (at n : ℕ) → all ≡ p ++ (a ++ s) → Words a → at ≡ 4 * length p → n ≡ length a → words n (drop at bytes) ≡ a
  array_read p a s at n e h f g = rw (bytes_all, e) (part p a s (r.text ++ rest) at n h f g)

  pub text_behind : take (length r.text) (drop (text_at (length r.kinds) (length r.changed) (length r.numbers)) bytes) ≡ r.text
  unfolding all six_sizes
  text_behind =
      let k : length (written all) ≡ text_at (length r.kinds) (length r.changed) (length r.numbers) =
      omega (arith, ap length encoded_all, length-append (written all) r.text, encoded_length r w.measures w.ruled w.noted) in
      rw (bytes_all, drop_at (written all) (r.text ++ rest) (text_at (length r.kinds) (length r.changed) (length r.numbers)) k) (take_at r.text rest (length r.text) refl)

  -- What is read out of the bytes is the result.
  pub decoded_encoded : Worded r → decoded bytes ≡ r
  unfolding decoded told all six_sizes
  decoded_encoded v =
      let K = r.kinds in
      let M = r.measures in
      let C = r.changed in
      let R = r.rules in
      let N = r.numbers in
      let D = r.noted in
      let S = six_sizes r in
      let k₁ = length-append S K in
      let k₂ = length-append (S ++ K) M in
      let k₃ = length-append (S ++ K ++ M) C in
      let k₄ = length-append (S ++ K ++ M ++ C) R in
      let k₅ = length-append (S ++ K ++ M ++ C ++ R) N in
      let m = w.measures in
      let u = w.ruled in
      let d = w.noted in
      rw (
        elements_read,
        text_read,
        changed_read,
        notes_read,
        discarded_read,
        climbs_read,
        array_read S K (M ++ (C ++ (R ++ (N ++ D)))) 24 (length K) refl v.kinds refl refl,
        array_read (S ++ K) M (C ++ (R ++ (N ++ D))) (24 + 4 * length K) (length K) (from_3 S K M C R N D) v.measures (omega arith) (omega arith),
        array_read (S ++ K ++ M) C (R ++ (N ++ D)) (24 + 8 * length K) (length C) (from_4 S K M C R N D) v.changed (omega arith) (omega arith),
        array_read (S ++ K ++ M ++ C) R (N ++ D) (24 + 8 * length K + 4 * length C) (length C) (from_5 S K M C R N D) v.rules (omega arith) (omega arith),
        array_read (S ++ K ++ M ++ C ++ R) N D (24 + 8 * length K + 8 * length C) (length N) (from_6 S K M C R N D) v.numbers (omega arith) (omega arith),
        array_read (S ++ K ++ M ++ C ++ R ++ N) D [] (24 + 8 * length K + 8 * length C + 4 * length N) (length N) (from_7 S K M C R N D) v.noted (omega arith) (omega arith),
        text_behind,
      )
