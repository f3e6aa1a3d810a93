-- START, as the bytes of an argument tell it: a decimal number from 0 to 4,294,967,295.
-- Assumes nothing.
use Rattle.std.specs.Prelude.{Some, None, ◌≡◌, ◌⊎◌, cond, ◌||◌, List, [], ◌∷◌, ℕ, suc, ◌+◌, ◌-◌, ◌*◌, ◌≤◌, ◌<◌, ltb, length, get_or, drop}
use Rattle.std.proofs.Math.Path.{refl}
use Rattle.std.proofs.Math.Option.{Option, none, some}
use Rattle.std.proofs.Common.{inl, inr, arith, drop-cons}
use Rattle.std.proofs.Math.Numerals.{add-one}
use Rattle.std.proofs.Math.Seq.{drop-length}
use borrow.Author.Tests.{lt-ltb, le-ltb}
use Rattle.std.specs.Option.{SomeIff}
use Rattle.std.specs.declared.option.Option as std
use Rattle.orders.specs.Lists.{meant}

-- the number that some digits tell, n being what those before them told; none where a byte is no digit, or the number outgrows 32 bits
unfoldable pub decimal : ℕ → List ℕ → Option ℕ
decimal n [] = some n
decimal n (b ∷ bs) =
    let m = 10 * n + (b - 48) in
    let rest = decimal m bs in
    cond (ltb b 48 || ltb 57 b || ltb 4294967295 m) none rest

-- START: none for an argument that is missing or empty
unfoldable pub start_of : List ℕ → Option ℕ
start_of [] = none
start_of (b ∷ bs) = decimal 0 (b ∷ bs)

-- ── Byte by byte ────────────────────────────────────────────────────────────────────────────────────────────

-- n is what the first i bytes tell
pub record ReadTo (argument : List ℕ) (n i : ℕ) : Type 0 where
  pub begun : 0 < length argument
  pub within : i ≤ length argument
  pub small : n ≤ 4294967295
  pub told : start_of argument ≡ decimal n (drop i argument)

pub read_none : (a : List ℕ) → length a ≡ 0 → meant None ≡ start_of a
unfolding start_of
read_none [] e = refl
read_none (b ∷ a) e = absurd (omega arith)

pub read_first : (a : List ℕ) → (length a ≡ 0 → ⊥) → ReadTo a 0 0
unfolding start_of
read_first [] h = absurd (h refl)
read_first (b ∷ a) h = record { begun = omega arith; within = omega arith; small = omega arith; told = refl }

module _ (a : List ℕ) (n i b : ℕ) (h : ReadTo a n i) (k : i < length a) (is : b ≡ get_or a i 0) where
  here : drop i a ≡ b ∷ drop (suc i) a
  here = rw is (drop-cons a i 0 k)

  pub read_low : b < 48 → meant None ≡ start_of a
  unfolding decimal
  read_low l = rw (h.told, here, lt-ltb b 48 l) refl

  pub read_high : 57 < b → meant None ≡ start_of a
  unfolding decimal
  read_high l = rw (h.told, here, le-ltb b 48 (omega arith), lt-ltb 57 b l) refl

  -- a byte that is no digit
  pub read_other : (b < 48) ⊎ (57 < b) → meant None ≡ start_of a
  read_other (inl l) = read_low l
  read_other (inr l) = read_high l

  pub read_large : 48 ≤ b → b ≤ 57 → 4294967295 < 10 * n + (b - 48) → meant None ≡ start_of a
  unfolding decimal
  read_large low high l = rw (h.told, here, le-ltb b 48 low, le-ltb 57 b high, lt-ltb 4294967295 (10 * n + (b - 48)) l) refl

  pub read_turn : 48 ≤ b → b ≤ 57 → 10 * n + (b - 48) ≤ 4294967295 → ReadTo a (10 * n + (b - 48)) (i + 1)
  unfolding decimal
  read_turn low high l = record {
    begun = h.begun;
    within = omega arith;
    small = l;
    told = rw (h.told, here, le-ltb b 48 low, le-ltb 57 b high, le-ltb 4294967295 (10 * n + (b - 48)) l, add-one i) refl;
  }

  -- the number that the turn comes to
  pub read_turn_to : {m : ℕ} → 48 ≤ b → b ≤ 57 → m ≡ 10 * n + (b - 48) → m ≤ 4294967295 → ReadTo a m (i + 1)
  read_turn_to {m} low high e l = rw e (read_turn low high (omega arith))

-- what a checked sum or product comes to
pub none_over : {r : std.Option ℕ} {v k : ℕ} → SomeIff r (v < k) v → r ≡ None → k ≤ v
none_over {r} {v} {k} s e = let t = rw e at s in omega (arith, t)

pub some_is : {r : std.Option ℕ} {v k x : ℕ} → SomeIff r (v < k) v → r ≡ Some x → (x ≡ v) × (v < k)
some_is {r} {v} {k} {x} s e = let t = rw e at s in (t.1, t.0)

pub read_last : (a : List ℕ) (n i : ℕ) → ReadTo a n i → length a ≤ i → meant (Some n) ≡ start_of a
unfolding decimal
read_last a n i h k = let z : i ≡ length a = omega (arith, h.within) in rw (h.told, z, drop-length a) refl
