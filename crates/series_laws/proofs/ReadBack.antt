-- What a call leaves in the lent slices is read as the memory that it left.
-- Assumes nothing.
use Rattle.std.proofs.Math.Path.{◌≡◌, refl, ap}
use Rattle.std.proofs.Common.{sym, ◌∙◌, arith, drop-drop}
use Rattle.std.specs.Prelude.{false, ℕ, suc, ◌*◌, ◌^◌, ◌≤◌, ◌<◌, take}
use mathlib.Core.List.{List, [], ◌∷◌, ◌++◌, append_assoc, map}
use Rattle.std.proofs.Math.ListN.{length, drop, length-append, length-drop}
use Rattle.std.proofs.Math.Seq.{length-take-le, take_at, drop_at}
use borrow.Author.Tests.{le-ltb}
use Rattle.orders.specs.Lists.{any, All}
use Rattle.definition.specs.Words.{word, words, bytes, written}
use Rattle.words.specs.Bytes.{Words, length_bytes, written_cons, written_append, length_written, word_bytes, words_written}
use Rattle.check_laws.specs.Check.{Flat}
use Rattle.series_laws.specs.Memory.{Bookmark}
use Rattle.series_laws.specs.Lent.{slot_words, longest_path, tree_in, slots, bookmark_in, beyond_slot, tree_bytes, tree_out, bookmark_out, over, slots_out}

-- ── The tree ────────────────────────────────────────────────────────────────────────────────────────────────

module _ (t : Flat) (rest : List ℕ) where
  -- its bytes, array after array
  tree_parts : tree_out t ++ rest ≡ bytes (length t.kinds) ++ (bytes (length t.text) ++ (written t.kinds ++ (written t.measures ++ (t.text ++ rest))))
  unfolding tree_out
  tree_parts =
      ap (λ (l : List ℕ). (l ++ t.text) ++ rest) (written_cons (length t.kinds) (length t.text ∷ (t.kinds ++ t.measures)) ∙ ap (λ (l : List ℕ). bytes (length t.kinds) ++ l) (written_cons (length t.text) (t.kinds ++ t.measures) ∙ ap (λ (l : List ℕ). bytes (length t.text) ++ l) (written_append t.kinds t.measures)))
      ∙ right (bytes (length t.kinds)) (bytes (length t.text)) (written t.kinds) (written t.measures) t.text rest
    where
      right : (a b c d e f : List ℕ) → ((a ++ (b ++ (c ++ d))) ++ e) ++ f ≡ a ++ (b ++ (c ++ (d ++ (e ++ f))))
      right a b c d e f = rw (append_assoc a (b ++ (c ++ d)) e, append_assoc a ((b ++ (c ++ d)) ++ e) f, append_assoc b (c ++ d) e, append_assoc b ((c ++ d) ++ e) f, append_assoc c d e, append_assoc c (d ++ e) f, append_assoc d e f)

  -- how long it is
  pub tree_length : length t.measures ≡ length t.kinds → length (tree_out t) ≡ tree_bytes (length t.kinds) (length t.text)
  unfolding tree_out tree_bytes
  tree_length h = omega (arith, length-append (written (length t.kinds ∷ length t.text ∷ (t.kinds ++ t.measures))) t.text, length_written (length t.kinds ∷ length t.text ∷ (t.kinds ++ t.measures)), length-append t.kinds t.measures)

  module _ (n : length t.kinds < 2 ^ 32) (b : length t.text < 2 ^ 32) where
    pub elements_read : word (tree_out t ++ rest) ≡ length t.kinds
    elements_read = ap word tree_parts ∙ word_bytes (length t.kinds) _ n

    pub text_read : word (drop 4 (tree_out t ++ rest)) ≡ length t.text
    text_read = ap (λ (l : List ℕ). word (drop 4 l)) tree_parts ∙ (ap word (drop_at (bytes (length t.kinds)) _ 4 (length_bytes (length t.kinds))) ∙ word_bytes (length t.text) _ b)

    -- THE TREE IS READ BACK
    pub tree_read : length t.measures ≡ length t.kinds → Words t.kinds → Words t.measures → tree_in (length t.kinds) (length t.text) (tree_out t ++ rest) ≡ t
    unfolding tree_in
    tree_read h k m =
        let behind : drop 8 (tree_out t ++ rest) ≡ written t.kinds ++ (written t.measures ++ (t.text ++ rest)) =
        ap (drop 8) tree_parts ∙ (sym (drop-drop 4 4 (bytes (length t.kinds) ++ (bytes (length t.text) ++ (written t.kinds ++ (written t.measures ++ (t.text ++ rest))))))
        ∙ (ap (drop 4) (drop_at (bytes (length t.kinds)) _ 4 (length_bytes (length t.kinds))) ∙ drop_at (bytes (length t.text)) _ 4 (length_bytes (length t.text)))) in
        let measures : drop (4 * length t.kinds) (drop 8 (tree_out t ++ rest)) ≡ written t.measures ++ (t.text ++ rest) = ap (drop (4 * length t.kinds)) behind ∙ drop_at (written t.kinds) _ (4 * length t.kinds) (length_written t.kinds) in
        let text : drop (4 * length t.kinds) (drop (4 * length t.kinds) (drop 8 (tree_out t ++ rest))) ≡ t.text ++ rest = ap (drop (4 * length t.kinds)) measures ∙ drop_at (written t.measures) _ (4 * length t.kinds) (omega (arith, length_written t.measures)) in
        go
        (ap (words (length t.kinds)) behind ∙ words_written t.kinds _ k)
        (ap (words (length t.kinds)) measures ∙ (ap (λ (j : ℕ). words j (written t.measures ++ (t.text ++ rest))) (sym h) ∙ words_written t.measures _ m))
        (ap (take (length t.text)) text ∙ take_at t.text rest (length t.text) refl)
      where
        go : {k' m' x' : List ℕ} → k' ≡ t.kinds → m' ≡ t.measures → x' ≡ t.text → ◌≡◌ {A = Flat} (record { kinds = k'; measures = m'; text = x' }) t
        go a b c = λ i. record { kinds = a i; measures = b i; text = c i }

-- ── Slots ───────────────────────────────────────────────────────────────────────────────────────────────────

module _ (b : Bookmark) (l : List ℕ) (h : length b.1 ≤ longest_path) (k : slot_words ≤ length l) where
  slot_length : length (over (bookmark_out b) (take slot_words l)) ≡ slot_words
  unfolding over bookmark_out
  slot_length =
      let new = b.0 ∷ length b.1 ∷ b.1 in
      omega (arith, length-append new (drop (length new) (take slot_words l)), length-drop (length new) (take slot_words l), length-take-le slot_words l k)

  slot_read : bookmark_in (over (bookmark_out b) (take slot_words l)) ≡ b
  unfolding over bookmark_out bookmark_in
  slot_read = let e = take_at b.1 (drop (suc (suc (length b.1))) (take slot_words l)) (length b.1) refl in λ i. (b.0, e i)

  slot_within : beyond_slot (over (bookmark_out b) (take slot_words l)) ≡ false
  unfolding over bookmark_out beyond_slot
  slot_within = le-ltb longest_path (length b.1) h

-- THE BOOKMARKS ARE READ BACK
pub slots_read : (bs : List Bookmark) (l : List ℕ) → All (λ b. length b.1 ≤ longest_path) bs → slot_words * length bs ≤ length l
    → (map bookmark_in (slots (length bs) (slots_out bs l)) ≡ bs) × (any beyond_slot (slots (length bs) (slots_out bs l)) ≡ false)
unfolding slots slots_out any
slots_read [] l h k = (refl, refl)
slots_read (b ∷ bs) l h k =
    let long : slot_words ≤ length l = omega arith in
    let s = over (bookmark_out b) (take slot_words l) in
    let len = slot_length b l h.0 long in
    let (x, y) = slots_read bs (drop slot_words l) h.1 (omega (arith, length-drop slot_words l)) in
    let f : take slot_words (s ++ slots_out bs (drop slot_words l)) ≡ s = take_at s (slots_out bs (drop slot_words l)) slot_words len in
    let g : drop slot_words (s ++ slots_out bs (drop slot_words l)) ≡ slots_out bs (drop slot_words l) = drop_at s (slots_out bs (drop slot_words l)) slot_words len in
    (rw (f, g, slot_read b l h.0 long, x), rw (f, g, slot_within b l h.0 long, y))

-- as long as they were
pub slots_length : (bs : List Bookmark) (l : List ℕ) → All (λ b. length b.1 ≤ longest_path) bs → slot_words * length bs ≤ length l → length (slots_out bs l) ≡ length l
unfolding slots_out
slots_length [] l h k = refl
slots_length (b ∷ bs) l h k =
    let long : slot_words ≤ length l = omega arith in
    omega (arith, length-append (over (bookmark_out b) (take slot_words l)) (slots_out bs (drop slot_words l)), slot_length b l h.0 long, slots_length bs (drop slot_words l) h.1 (omega (arith, length-drop slot_words l)), length-drop slot_words l)
