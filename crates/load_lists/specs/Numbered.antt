-- Call i of a load, from what the generator holds before it: calls 0, 1 and 2 share one draw, each further call takes two.
-- Assumes nothing.
use Rattle.std.specs.Prelude.{◌≡◌, refl, cond, ℕ, zero, suc, ◌+◌, ◌-◌, ◌*◌, ◌≤◌, ◌<◌, ltb, eqb, get_or}
use Rattle.std.proofs.Common.{arith, le-ltb, ne_eqb}
use Rattle.definition.specs.Refusals.{Call}
use Rattle.load_laws.specs.Load.{next, drawn, after, draw, first_calls, call_at, calls}
use Rattle.load_laws.specs.Draws.{none, call_drawn}

-- what the generator holds before call i
unfoldable pub before : ℕ → ℕ → ℕ
before start i = after (2 * i - 5) start

-- call i, from that
unfoldable pub numbered : ℕ → ℕ → Call
numbered i s = cond (ltb i 3) (get_or (first_calls (drawn s)) i none) (call_at i (drawn s) (drawn (next s)))

-- what the generator holds after call i: draw 1 is passed with call 2
unfoldable pub passed : ℕ → ℕ → ℕ
passed i s = cond (ltb i 2) s (cond (eqb i 2) (next s) (next (next s)))

after_suc : (n s : ℕ) → after (suc n) s ≡ next (after n s)
unfolding after
after_suc zero s = refl
after_suc (suc n) s = after_suc n (next s)

pub before_next : (start i : ℕ) → passed i (before start i) ≡ before start (i + 1)
unfolding passed before after
before_next start zero = refl
before_next start (suc zero) = refl
before_next start (suc (suc zero)) = refl
before_next start (suc (suc (suc i))) =
    let a : 2 * suc (suc (suc i)) - 5 ≡ suc (2 * i) = omega arith in
    let b : 2 * (suc (suc (suc i)) + 1) - 5 ≡ suc (suc (suc (2 * i))) = omega arith in
    rw (le-ltb (suc (suc (suc i))) 2 (omega arith), ne_eqb (suc (suc (suc i))) 2 (λ z. omega arith), a, b, after_suc (suc (suc (2 * i))) start, after_suc (suc (2 * i)) start) refl

-- the two draws of call i
its_draws : (start i : ℕ) → 3 ≤ i → (draw (2 * i - 4) start ≡ drawn (after (2 * i - 5) start)) × (draw (2 * i - 3) start ≡ drawn (next (after (2 * i - 5) start)))
unfolding draw
its_draws start i h =
    let a : 2 * i - 4 - 1 ≡ 2 * i - 5 = omega arith in
    let b : 2 * i - 3 - 1 ≡ suc (2 * i - 5) = omega arith in
    (rw a refl, rw (b, after_suc (2 * i - 5) start) refl)

-- CALL i of a load is this one.
pub call_numbered : (start i : ℕ) → i < 96 → get_or (calls start) i none ≡ numbered i (before start i)
unfolding numbered before calls first_calls after
call_numbered start zero h = refl
call_numbered start (suc zero) h = refl
call_numbered start (suc (suc zero)) h = refl
call_numbered start (suc (suc (suc m))) h =
    let (a, b) = its_draws start (suc (suc (suc m))) (omega arith) in
    rw (le-ltb (suc (suc (suc m))) 3 (omega arith), ← a, ← b) (call_drawn start (suc (suc (suc m))) (omega arith) h)
