-- Words that stand in some bytes, as one value.
-- Assumes nothing.
use Rattle.std.specs.Prelude.{◌≡◌, ℕ, ◌+◌, ◌*◌, ◌≤◌, ◌<◌, length, get_or, drop}
use mathlib.Core.List.{List}
use Rattle.std.proofs.Common.{sym, ap, ◌∙◌, arith, drop-drop}
use Rattle.std.proofs.Math.ListN.{get_or-eq_default}
use Rattle.definition.specs.Words.{word, words}
use Rattle.words.specs.Bytes.{length_words, get_d_words}
use Rattle.words.specs.declared.list.WordList.{WordList}

-- the words themselves
abbrev pub words_of : WordList → List ℕ
words_of l = words l.count (drop l.at l.bytes.now)

-- there are as many as it counts
pub length_of : (l : WordList) → length (words_of l) ≡ l.count
length_of l = length_words l.count _

module _ (b : List ℕ) (at n i : ℕ) where
  -- a word of them stands at its place in the bytes
  pub word_there : (r : ℕ) → i < n → r ≡ word (drop (at + 4 * i) b) → r ≡ get_or (words n (drop at b)) i 0
  word_there r h e = e ∙ sym (get_d_words n (drop at b) i h ∙ ap word (drop-drop (4 * i) at b))

  -- and past the end none
  pub none_there : n ≤ i → 0 ≡ get_or (words n (drop at b)) i 0
  none_there h = sym (get_or-eq_default (words n (drop at b)) 0 (omega (arith, length_words n (drop at b))))
