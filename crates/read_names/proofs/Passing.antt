-- A search through a list by its numbers: all pass just if what is looked for is at none.
-- Assumes nothing.
use mathlib.Core.Path.{◌≡◌, refl, sym, ap, ◌∙◌}
use mathlib.Core.Bool.{Bool, not}
use mathlib.Core.List.{List, [], ◌∷◌, map, zip}
use mathlib.Core.Logic.{inl, inr}
use Rattle.std.specs.List.{list_all, range_with_len}
use Rattle.std.proofs.lemmas.List.FromFn.{fill_by_all}
use Prim.Native.Nat.{ℕ, zero, suc, ◌+◌, ◌≤◌, ◌<◌}
use native.Mathlib.Numerals.{add-one}
use native.Mathlib.Omega.{arith}
use lib.Dec.{leb, ltb}
use lib.ListN.{drop, get_or, drop_of_length-le}
use lib.Seq.{drop-cons}
use borrow.Author.Tests.{le-leb, lt-leb, lt-ltb, le-ltb}
use Rattle.orders.specs.ListLaws.{lt_or_le, none_found}
use Rattle.definition.specs.Basics.{any}
use Rattle.words.specs.List.{words_of, length_of}
use Rattle.words.specs.declared.list.WordList.{WordList}

-- ── Words ───────────────────────────────────────────────────────────────────────────────────────────────────

-- the words from number i on
words_from : (l : WordList) (i : ℕ) → i < l.count → drop i (words_of l) ≡ get_or (words_of l) i 0 ∷ drop (i + 1) (words_of l)
words_from l i h = rw (add-one i) (drop-cons (words_of l) i 0 (omega (arith, length_of l)))

-- past the end
words_over : (l : WordList) (i : ℕ) → l.count ≤ i → drop i (words_of l) ≡ []
words_over l i h = drop_of_length-le (words_of l) {i = i} (omega (arith, length_of l))

module _ (p : ℕ → Bool) (l : WordList) where
  -- word i is not what is looked for
  abbrev pub passes : ℕ → Bool
  passes i = not (p (get_or (words_of l) i 0))

  pub words_pass : list_all passes (range_with_len 0 l.count) ≡ not (any p (words_of l))
  words_pass = none_found p (λ i. get_or (words_of l) i 0) (range_with_len 0 l.count) ∙ ap (λ xs. not (any p xs)) (sym (fill_by_all (λ i. get_or (words_of l) i 0) (words_of l) l.count 0 (length_of l) (λ k h. refl)))

-- below n is not n or more
pub below_told : (n x : ℕ) → ltb x n ≡ not (leb n x)
below_told n x = elim (lt_or_le x n) [ inl h ↦ rw (lt-ltb x n h, lt-leb n x h) | inr h ↦ rw (le-ltb x n h, le-leb n x h) ]

-- ── Pairs of words ──────────────────────────────────────────────────────────────────────────────────────────

module _ (first second : WordList) where
  -- the pairs of two lists, from number i on
  unfoldable pub pairs_from : ℕ → List (ℕ × ℕ)
  pairs_from i = zip (drop i (words_of first)) (drop i (words_of second))

  pub pairs_all : pairs_from 0 ≡ zip (words_of first) (words_of second)
  unfolding pairs_from
  pairs_all = refl

  pub pairs_none : (i : ℕ) → first.count ≤ i → pairs_from i ≡ []
  unfolding pairs_from zip
  pairs_none i h = rw (words_over first i h)

  module _ (i : ℕ) (h : i < first.count) (k : second.count ≡ first.count) where
    pub pairs_more : pairs_from i ≡ (get_or (words_of first) i 0, get_or (words_of second) i 0) ∷ pairs_from (i + 1)
    unfolding pairs_from zip
    pairs_more = rw (words_from first i h, words_from second i (omega arith))

module _ (p : ℕ × ℕ → Bool) (first second : WordList) where
  at : ℕ → ℕ × ℕ
  at i = (get_or (words_of first) i 0, get_or (words_of second) i 0)

  -- pair i is not what is looked for
  abbrev pub pair_passes : ℕ → Bool
  pair_passes i = not (p (get_or (words_of first) i 0, get_or (words_of second) i 0))

  module _ (e : second.count ≡ first.count) where
    pairs_counted : (k i : ℕ) → i + k ≡ first.count → pairs_from first second i ≡ map at (range_with_len i k)
    unfolding at
    pairs_counted zero i h = pairs_none first second i (omega arith)
    pairs_counted (suc k) i h = pairs_more first second i (omega arith) e ∙ ap (λ l. at i ∷ l) (pairs_counted k (i + 1) (omega arith))

    pub pairs_pass : list_all pair_passes (range_with_len 0 first.count) ≡ not (any p (zip (words_of first) (words_of second)))
    unfolding at
    pairs_pass = none_found p at (range_with_len 0 first.count) ∙ ap (λ l. not (any p l)) (sym (pairs_counted first.count 0 (omega arith)) ∙ pairs_all first second)
