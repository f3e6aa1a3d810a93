-- Numbers that are written to an array from its front on, and read backward.
-- Assumes nothing.
use Rattle.std.specs.Prelude.{List, [], ◌∷◌, reverse, ◌≡◌, refl, ℕ, ◌+◌, ◌≤◌, ◌<◌, length, set, take}
use Rattle.std.proofs.lemmas.List.{reverse-append, length-reverse}
use Rattle.std.proofs.Common.{ap, ◌∙◌, add-one, arith, take_all, take-suc-set, length-take-le}

-- the first k numbers, the last first
unfoldable pub backward : ℕ → List ℕ → List ℕ
backward k numbers = reverse (take k numbers)

pub backward_none : (a : List ℕ) → backward 0 a ≡ []
unfolding backward
backward_none a = refl

-- the numbers at the front, as a slice of their own
pub backward_front : (k : ℕ) (a : List ℕ) → backward (length (take k a)) (take k a) ≡ backward k a
unfolding backward
backward_front k a = ap reverse (take_all (length (take k a)) (take k a) (omega arith))

-- one more is written behind them
pub backward_set : (a : List ℕ) (k v : ℕ) → k < length a → backward (k + 1) (set a k v) ≡ v ∷ backward k a
unfolding backward
backward_set a k v h = rw (add-one k, take-suc-set a k v h, reverse-append (take k a) (v ∷ []))

pub length_backward : (a : List ℕ) (k : ℕ) → k ≤ length a → length (backward k a) ≡ k
unfolding backward
length_backward a k h = length-reverse (take k a) ∙ length-take-le k a h
