-- "which draw chooses what": draw 1 calls 0 to 2, draws 2i − 4 and 2i − 3 call i, draws 188 to 195 the notes.
-- Assumes nothing.
use Rattle.std.specs.Prelude.{◌≡◌, refl, [], map, ℕ, zero, suc, ◌+◌, ◌-◌, ◌*◌, ◌%◌, ◌≤◌, ◌<◌, get_or, take}
use Rattle.std.proofs.Common.{◌∙◌, arith}
use Rattle.definition.specs.Refusals.{Call}
use Rattle.load_laws.specs.Load.{next, drawn, after, draw, draws, call, first_calls, call_at, calls_from, calls, noted}

-- no call
abbrev pub none : Call
none = call 0 0 0 []

from_at : (k n i s : ℕ) → i < n → get_or (calls_from k n s) i none ≡ call_at (k + i) (drawn (after (2 * i) s)) (drawn (after (2 * i + 1) s))
unfolding calls_from after
from_at k zero i s h = absurd (omega arith)
from_at k (suc n) zero s h = let z : k + 0 ≡ k = omega arith in rw z refl
from_at k (suc n) (suc i) s h =
    let a : 2 * suc i ≡ suc (suc (2 * i)) = omega arith in
    let b : 2 * suc i + 1 ≡ suc (suc (2 * i + 1)) = omega arith in
    let c : k + suc i ≡ suc k + i = omega arith in
    rw (b, a, c) (from_at (suc k) n i (next (next s)) (omega arith))

-- CALLS 0, 1 AND 2 come from draw 1.
pub first_drawn : (s : ℕ) → take 3 (calls s) ≡ first_calls (draw 1 s)
unfolding calls first_calls draw after
first_drawn s = refl

-- EVERY FURTHER CALL comes from two draws of its own.
pub call_drawn : (s i : ℕ) → 3 ≤ i → i < 96 → get_or (calls s) i none ≡ call_at i (draw (2 * i - 4) s) (draw (2 * i - 3) s)
unfolding calls first_calls draw after
call_drawn s zero h k = absurd (omega arith)
call_drawn s (suc zero) h k = absurd (omega arith)
call_drawn s (suc (suc zero)) h k = absurd (omega arith)
call_drawn s (suc (suc (suc m))) h k =
    let a : 2 * suc (suc (suc m)) - 4 - 1 ≡ suc (2 * m) = omega arith in
    let b : 2 * suc (suc (suc m)) - 3 - 1 ≡ suc (2 * m + 1) = omega arith in
    let c : suc (suc (suc m)) ≡ 3 + m = omega arith in
    rw (a, b) (rw (← c) at (from_at 3 93 m (next s) (omega arith)))

after_after : (m n s : ℕ) → after m (after n s) ≡ after (n + m) s
unfolding after
after_after m zero s = let z : 0 + m ≡ m = omega arith in rw z refl
after_after m (suc n) s = let z : suc n + m ≡ suc (n + m) = omega arith in rw z (after_after m n (next s))

some_at : (n i s : ℕ) → i < n → get_or (map (λ d. d % 769) (draws n s)) i 0 ≡ drawn (after i s) % 769
unfolding draws after
some_at zero i s h = absurd (omega arith)
some_at (suc n) zero s h = refl
some_at (suc n) (suc i) s h = some_at n i (next s) (omega arith)

-- THE ELEMENT OF NOTE k + 1 comes from draw 188 + k.
pub note_drawn : (s k : ℕ) → k < 8 → get_or (noted s) k 0 ≡ draw (188 + k) s % 769
unfolding noted draw
note_drawn s k h =
    let z : 188 + k - 1 ≡ 187 + k = omega arith in
    some_at 8 k (after 187 s) h ∙ rw (z, after_after k 187 s) refl
