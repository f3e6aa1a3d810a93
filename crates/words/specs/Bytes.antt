-- Words in bytes: what is read, what is written, and that each gives back the other.
-- Assumes nothing.
use Rattle.std.specs.Prelude.{◌≡◌, refl, ℕ, zero, suc, ◌+◌, ◌*◌, ◌/◌, ◌%◌, ◌^◌, ◌≤◌, ◌<◌, length, get_or, take, drop}
use Rattle.std.proofs.Common.{sym, ap, ◌∙◌, suc-add, zero-add, add-zero, arith, length-append, take-append-drop, drop-drop, take_at, drop_at, length-take-le, get_or-drop}
use mathlib.Core.List.{List, [], ◌∷◌, ◌++◌, append_assoc, flat_map}
use Rattle.std.proofs.Math.Nat.{div-div-eq-div-mul}
use Rattle.definition.specs.Words.{word, words, bytes, written}
pub use Rattle.definition_laws.specs.Accepted.{words_length as length_words}
pub use Rattle.definition_laws.proofs.Limits.{written_length as length_written}

-- each is a word
abbrev pub Words : List ℕ → Type 0
Words ws = (i : ℕ) → get_or ws i 0 < 2 ^ 32

-- each is a byte
abbrev pub Bytes : List ℕ → Type 0
Bytes b = (i : ℕ) → get_or b i 0 < 2 ^ 8

-- ── Words read ──────────────────────────────────────────────────────────────────────────────────────────────

-- the word at a place, by its four bytes
pub word_drop : (at : ℕ) (l : List ℕ) → word (drop at l) ≡ get_or l at 0 + 256 * get_or l (at + 1) 0 + 65536 * get_or l (at + 2) 0 + 16777216 * get_or l (at + 3) 0
unfolding word
word_drop at l = rw (get_or-drop at l 0 0, get_or-drop at l 1 0, get_or-drop at l 2 0, get_or-drop at l 3 0, add-zero)

pub get_d_words : (n : ℕ) (l : List ℕ) (i : ℕ) → i < n → get_or (words n l) i 0 ≡ word (drop (4 * i) l)
unfolding words
get_d_words zero l i h = absurd (omega arith)
get_d_words (suc n) l zero h = refl
get_d_words (suc n) l (suc i) h =
    let e : 4 * suc i ≡ 4 + 4 * i = omega arith in
    rw (e, ← drop-drop (4 * i) 4 l) (get_d_words n (drop 4 l) i (omega arith))

pub drop_bytes : (n : ℕ) (b : List ℕ) → Bytes b → Bytes (drop n b)
drop_bytes n b h i = rw (get_or-drop n b i 0) (h (n + i))

pub take_bytes : (n : ℕ) (b : List ℕ) → Bytes b → Bytes (take n b)
take_bytes zero b h i = omega arith
take_bytes (suc n) [] h i = omega arith
take_bytes (suc n) (x ∷ b) h zero = h 0
take_bytes (suc n) (x ∷ b) h (suc i) = take_bytes n b (λ j. h (suc j)) i

-- what is read of bytes is a word
pub word_small : (b : List ℕ) → Bytes b → word b < 2 ^ 32
unfolding word
word_small b h = omega (arith, h 0, h 1, h 2, h 3)

pub words_small : (n : ℕ) (b : List ℕ) → Bytes b → Words (words n b)
unfolding words
words_small zero b h i = omega arith
words_small (suc n) b h zero = word_small b h
words_small (suc n) b h (suc i) = words_small n (drop 4 b) (drop_bytes 4 b h) i

-- k words are the first m, and n more
pub words_append : (m n k : ℕ) (l : List ℕ) → k ≡ m + n → words k l ≡ words m l ++ words n (drop (4 * m) l)
unfolding words
words_append zero n k l e = rw (e, zero-add)
words_append (suc m) n k l e =
    let f : 4 * suc m ≡ 4 + 4 * m = omega arith in
    rw (e, suc-add m n, f, ← drop-drop (4 * m) 4 l) (ap (λ (r : List ℕ). word l ∷ r) (words_append m n (m + n) (drop 4 l) refl))

pub take_words : (m n k : ℕ) (l : List ℕ) → k ≡ m + n → take m (words k l) ≡ words m l
take_words m n k l e = ap (take m) (words_append m n k l e) ∙ take_at (words m l) (words n (drop (4 * m) l)) m (length_words m l)

pub drop_words : (m n k : ℕ) (l : List ℕ) → k ≡ m + n → drop m (words k l) ≡ words n (drop (4 * m) l)
drop_words m n k l e = ap (drop m) (words_append m n k l e) ∙ drop_at (words m l) (words n (drop (4 * m) l)) m (length_words m l)

-- ── Words written ───────────────────────────────────────────────────────────────────────────────────────────

pub length_bytes : (w : ℕ) → length (bytes w) ≡ 4
unfolding bytes
length_bytes w = refl

pub written_cons : (w : ℕ) (ws : List ℕ) → written (w ∷ ws) ≡ bytes w ++ written ws
unfolding written flat_map
written_cons w ws = refl

pub written_append : (a b : List ℕ) → written (a ++ b) ≡ written a ++ written b
unfolding written flat_map
written_append [] b = refl
written_append (w ∷ a) b = rw append_assoc (ap (λ (r : List ℕ). bytes w ++ r) (written_append a b))

module _ (n : ℕ) (ws : List ℕ) (h : n ≤ length ws) where
  written_parts : written ws ≡ written (take n ws) ++ written (drop n ws)
  written_parts = ap written (sym (take-append-drop n ws)) ∙ written_append (take n ws) (drop n ws)

  length_front : length (written (take n ws)) ≡ 4 * n
  length_front = rw (length_written, length-take-le n ws h)

  pub drop_written : drop (4 * n) (written ws) ≡ written (drop n ws)
  drop_written = ap (drop (4 * n)) written_parts ∙ drop_at (written (take n ws)) (written (drop n ws)) (4 * n) length_front

-- ── What was written is read back ───────────────────────────────────────────────────────────────────────────

-- a number by its four digits to the base 256
digits : (w a b c : ℕ) → w / 256 ≡ a → a / 256 ≡ b → b / 256 ≡ c → c < 256 → w % 256 + 256 * (a % 256) + 65536 * (b % 256) + 16777216 * (c % 256) ≡ w
digits w a b c p q r h = omega arith

pub word_bytes : (w : ℕ) (r : List ℕ) → w < 2 ^ 32 → word (bytes w ++ r) ≡ w
unfolding word bytes
word_bytes w r h =
    digits w (w / 256) (w / 65536) (w / 16777216) refl (div-div-eq-div-mul w 256 256) (div-div-eq-div-mul w 65536 256) (omega arith)

pub words_written : (ws r : List ℕ) → Words ws → words (length ws) (written ws ++ r) ≡ ws
unfolding words
words_written [] r h = refl
words_written (w ∷ ws) r h =
    rw (written_cons, append_assoc, word_bytes w (written ws ++ r) (h 0), drop_at (bytes w) (written ws ++ r) 4 (length_bytes w))
    (ap (λ (l : List ℕ). w ∷ l) (words_written ws r (λ i. h (suc i))))

-- ── What was read is written back ───────────────────────────────────────────────────────────────────────────

-- a digit to the base 256, and what is above it
digit : (a r : ℕ) → a < 256 → ((a + 256 * r) % 256 ≡ a) × ((a + 256 * r) / 256 ≡ r)
digit a r h = (omega arith, omega arith)

pub bytes_word : (a b c d : ℕ) (l : List ℕ) → a < 256 → b < 256 → c < 256 → d < 256 → bytes (word (a ∷ b ∷ c ∷ d ∷ l)) ≡ a ∷ b ∷ c ∷ d ∷ []
unfolding bytes word
bytes_word a b c d l p q r s =
    let w : ℕ = a + 256 * b + 65536 * c + 16777216 * d in
    let x : w ≡ a + 256 * (b + 256 * (c + 256 * d)) = omega arith in
    let (e₀, f₁) = digit a (b + 256 * (c + 256 * d)) p in
    let (e₁, f₂) = digit b (c + 256 * d) q in
    let (e₂, f₃) = digit c d r in
    let g₁ : w / 256 ≡ b + 256 * (c + 256 * d) = ap (λ (z : ℕ). z / 256) x ∙ f₁ in
    let g₂ : w / 65536 ≡ c + 256 * d = sym (div-div-eq-div-mul w 256 256) ∙ (ap (λ (z : ℕ). z / 256) g₁ ∙ f₂) in
    let g₃ : w / 16777216 ≡ d = sym (div-div-eq-div-mul w 65536 256) ∙ (ap (λ (z : ℕ). z / 256) g₂ ∙ f₃) in
    let h₀ : w % 256 ≡ a = ap (λ (z : ℕ). z % 256) x ∙ e₀ in
    let h₁ : w / 256 % 256 ≡ b = ap (λ (z : ℕ). z % 256) g₁ ∙ e₁ in
    let h₂ : w / 65536 % 256 ≡ c = ap (λ (z : ℕ). z % 256) g₂ ∙ e₂ in
    let h₃ : w / 16777216 % 256 ≡ d = ap (λ (z : ℕ). z % 256) g₃ ∙ omega arith in
    rw (h₀, h₁, h₂, h₃)

-- n words of bytes, written, are those bytes
pub written_words : (n : ℕ) (l : List ℕ) → 4 * n ≤ length l → Bytes l → written (words n l) ≡ take (4 * n) l
unfolding words written flat_map
written_words zero l h b = refl
written_words (suc n) [] h b = absurd (omega arith)
written_words (suc n) (a ∷ []) h b = absurd (omega arith)
written_words (suc n) (a ∷ c ∷ []) h b = absurd (omega arith)
written_words (suc n) (a ∷ c ∷ d ∷ []) h b = absurd (omega arith)
written_words (suc n) (a ∷ c ∷ d ∷ e ∷ l) h b =
    let k : 4 * suc n ≡ suc (suc (suc (suc (4 * n)))) = omega arith in
    rw (k, bytes_word a c d e l (b 0) (b 1) (b 2) (b 3))
    (ap (λ (r : List ℕ). a ∷ c ∷ d ∷ e ∷ r) (written_words n l (omega arith) (λ i. b (suc (suc (suc (suc i)))))))
