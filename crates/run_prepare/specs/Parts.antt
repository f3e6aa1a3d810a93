-- Slices that are all of one kind: the words that some bytes hold, and how a part that is cut out of more tells the same. The notes that some words are, passed on.
-- Assumes nothing.
use Rattle.std.specs.Prelude.{◌≡◌, List, ℕ, ◌+◌, ◌-◌, ◌*◌, ◌/◌, ◌≤◌, ◌<◌, length, take, drop}
use Rattle.std.proofs.Common.{sym, ap, ◌∙◌, arith, length-drop, length-take-le, get_or-take, ext_get_or}
use Rattle.definition.specs.Words.{words}
use Rattle.words.specs.Bytes.{word_drop, length_words, get_d_words}
pub use Rattle.run_annotations.specs.Notes.{notes_in, notes_part}

-- all words that some bytes hold
abbrev pub words_in : List ℕ → List ℕ
words_in b = words (length b / 4) b

-- n words are in the first bytes alone
words_take : (n m : ℕ) (l : List ℕ) → 4 * n ≤ m → words n (take m l) ≡ words n l
words_take n m l h =
    ext_get_or 0 (words n (take m l)) (words n l) (length_words n (take m l) ∙ sym (length_words n l))
    (λ i b.
    let k : i < n = omega (arith, length_words n (take m l)) in
    get_d_words n (take m l) i k
    ∙ (word_drop (4 * i) (take m l)
    ∙ (rw (get_or-take m l (4 * i) 0 (omega arith), get_or-take m l (4 * i + 1) 0 (omega arith), get_or-take m l (4 * i + 2) 0 (omega arith), get_or-take m l (4 * i + 3) 0 (omega arith)) (sym (word_drop (4 * i) l)) ∙ sym (get_d_words n l i k))))

module _ (b : List ℕ) (from n to : ℕ) (e : to ≡ from + 4 * n) (h : to ≤ length b) where
  -- as many words as were cut out
  pub part_long : length (take (to - from) (drop from b)) ≡ 4 * n
  part_long = length-take-le (to - from) (drop from b) (omega (arith, length-drop from b)) ∙ omega arith

  pub part_words : length (take (to - from) (drop from b)) / 4 ≡ n
  part_words = omega (arith, part_long)

  pub words_part : words_in (take (to - from) (drop from b)) ≡ words n (drop from b)
  words_part = ap (λ (i : ℕ). words i (take (to - from) (drop from b))) part_words ∙ words_take n (to - from) (drop from b) (omega arith)
