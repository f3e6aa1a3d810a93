-- The ways out of the program's functions.
-- Assumes nothing.
use mathlib.Core.Path.{◌≡◌, refl, sym, ap, ◌∙◌}
use mathlib.Core.Bool.{Bool}
use mathlib.Core.List.{List, [], ◌∷◌, zip, zip_with}
use Prim.Native.Nat.{ℕ, ◌+◌, ◌-◌, ◌*◌, ◌≤◌, ◌<◌}
use native.Mathlib.Omega.{arith}
use native.Mathlib.Nat.{zero-add}
use lib.ListN.{length, take, drop, length-drop}
use lib.Seq.{paste, take_all, take-paste}
use borrow.Author.Tests.{lt-ltb, le-ltb, eq-eqb, ne_eqb}
use Rattle.definition.specs.Basics.{Answer, refused, ◌>>=◌, refuse, any}
use Rattle.definition.specs.Answers.{too_short, with_work}
use Rattle.definition.specs.Words.{word, words}
use Rattle.words.specs.Bytes.{length_words}
use Rattle.promises.specs.Slices.{lengths}
use Rattle.check_laws.specs.Check.{Claims, checked}
use Rattle.check_laws.specs.Layout.{size_of, list_words, claims_from, claims_of}
use Rattle.check_claim.specs.Promise.{checker_needs, claims_in, told, Checks}
use Rattle.check_program.specs.Responds.{answered}

-- ── The call ────────────────────────────────────────────────────────────────────────────────────────────────

-- where the work slices have their lengths, 1 does not come
pub whole : {c : Claims} {o n p m : List ℕ} {r : Answer Bool} {left : List (List ℕ)} → Checks c (o ∷ n ∷ p ∷ m ∷ []) r left → 16384 ≡ length o → 16384 ≡ length n → 4096 ≡ length p → 4096 ≡ length m → r ≡ checked c
unfolding told with_work too_short lengths checker_needs zip zip_with any refuse ◌>>=◌
whole k a b c d = k.answer ∙ rw (← a, ← b, ← c, ← d)

-- all that is left
rest : (l : List ℕ) (i k : ℕ) → k ≡ length l - i → take k (drop i l) ≡ drop i l
rest l i k e = take_all k (drop i l) (omega (arith, length-drop i l))

-- the parts of the lists, as the slices have them
pub parts_claimed : (l t : List ℕ) (a b c d e g : ℕ) (k₁ k₂ k₃ k₄ k₅ k₆ k₇ : ℕ) → k₁ ≡ b → k₂ ≡ d → k₃ ≡ e → k₄ ≡ length t - c → k₅ ≡ g → k₆ ≡ g → k₇ ≡ length l - (a + b + d + e + g + g)
    → claims_in (take a l) (take k₁ (drop a l)) (take c t) (take k₂ (drop (a + b) l)) (take k₃ (drop (a + b + d) l)) (take k₄ (drop c t)) (take k₅ (drop (a + b + d + e) l)) (take k₆ (drop (a + b + d + e + g) l)) (take k₇ (drop (a + b + d + e + g + g) l)) ≡ claims_from l t a b c d e g
parts_claimed l t a b c d e g k₁ k₂ k₃ k₄ k₅ k₆ k₇ e₁ e₂ e₃ e₄ e₅ e₆ e₇ = rw (e₁, e₂, e₃, e₅, e₆, rest t c k₄ e₄, rest l (a + b + d + e + g + g) k₇ e₇) refl

-- ── The layout ──────────────────────────────────────────────────────────────────────────────────────────────

pub short_claim : (x : List ℕ) → length x < 32 → refused 2 ≡ answered x
unfolding answered claims_of refuse ◌>>=◌
short_claim x h = rw (lt-ltb (length x) 32 h)

module _ (x : List ℕ) (long : 32 ≤ length x) {a b c d e f g h : ℕ} (ea : a ≡ word (drop 0 x)) (eb : b ≡ word (drop 4 x)) (ec : c ≡ word (drop 8 x)) (ed : d ≡ word (drop 12 x)) (ee : e ≡ word (drop 16 x))
    (ef : f ≡ word (drop 20 x)) (eg : g ≡ word (drop 24 x)) (eh : h ≡ word (drop 28 x)) where
  count : list_words x ≡ a + b + d + e + 2 * g + h
  unfolding list_words size_of
  count = rw (ea, eb, ed, ee, eg, eh)

  size : 32 + 4 * list_words x + size_of x 2 + size_of x 5 ≡ 32 + 4 * (a + b + d + e + 2 * g + h) + c + f
  unfolding size_of
  size = rw (count, ec, ef)

  pub other_length : (length x ≡ 32 + 4 * (a + b + d + e + 2 * g + h) + c + f → ⊥) → refused 4 ≡ answered x
  unfolding answered claims_of refuse ◌>>=◌
  other_length k = rw (le-ltb (length x) 32 long, size, ne_eqb (length x) (32 + 4 * (a + b + d + e + 2 * g + h) + c + f) k)

  pub right_length : length x ≡ 32 + 4 * (a + b + d + e + 2 * g + h) + c + f → {l t : List ℕ} → l ≡ words (a + b + d + e + 2 * g + h) (drop 32 x) → t ≡ drop (32 + 4 * (a + b + d + e + 2 * g + h)) x → {r : Answer Bool} → r ≡ checked (claims_from l t a b c d e g) → r ≡ answered x
  unfolding answered claims_of refuse ◌>>=◌ size_of
  right_length k el et q = q ∙ rw (le-ltb (length x) 32 long, size, eq-eqb (length x) (32 + 4 * (a + b + d + e + 2 * g + h) + c + f) k, el, et, count, ea, eb, ec, ed, ee, eg)

-- what `read_words` leaves at the front of a slice
module _ (n : ℕ) (x z l : List ℕ) (e : l ≡ paste z 0 (words n x) n) (h : n ≤ length z) where
  pub front_words : take n l ≡ words n x
  front_words = ap (take n) e ∙ (ap (λ (k : ℕ). take k (paste z 0 (words n x) n)) (sym (zero-add n)) ∙ (take-paste z 0 (words n x) n (omega arith) (omega (arith, length_words n x)) ∙ take_all n (words n x) (omega (arith, length_words n x))))

pub texts_left : (x : List ℕ) (i k : ℕ) → k ≡ length x - i → take k (drop i x) ≡ drop i x
texts_left x i k e = rest x i k e
