-- Which call is chosen, from the tests that led there.
-- Assumes nothing.
use mathlib.Core.Path.{◌≡◌, refl}
use mathlib.Core.Bool.{Bool, true, false}
use mathlib.Core.List.{List, [], ◌∷◌}
use Prim.Native.Nat.{ℕ, ◌+◌, ◌/◌, ◌%◌, ◌≤◌, ◌<◌}
use native.Mathlib.Omega.{arith}
use lib.ListN.{length, get_or}
use Rattle.std.specs.Prelude.{Option}
use Rattle.std.specs.List.{slice_get}
use Rattle.std.specs.Option.{unwrap_or}
use borrow.Author.Tests.{ne_eqb, lt-ltb, le-ltb}
use Rattle.load_laws.specs.Load.{separator, block, block_token, donor, call, rule_drawn, replaced, token_drawn, donor_drawn, other_drawn, first_calls, free_call, own_call, further_editor, call_at}
use Rattle.load_laws.specs.Draws.{none}
use Rattle.load_draws.specs.declared.DrawnCall.{DrawnCall}
use Rattle.load_draws.specs.Called.{call_of, Called}

-- ── A call ──────────────────────────────────────────────────────────────────────────────────────────────────

-- two elements at most, in two places
pub listed_in : (o t r : ℕ) (l : List ℕ) (p : Option ℕ) (x y : ℕ) → length l ≤ 2 → p ≡ slice_get l 0 → x ≡ unwrap_or p 0 → y ≡ get_or l 1 0
    → Called (record { operation = o; target = t; rule = r; count = length l; first = x; second = y }) (call r o t l)
unfolding call_of
listed_in o t r [] p x y h e g k = record { call = refl; few = omega arith }
listed_in o t r (a ∷ []) p x y h e g k = record { call = rw (g, e) refl; few = omega arith }
listed_in o t r (a ∷ b ∷ []) p x y h e g k = record { call = rw (g, e, k) refl; few = omega arith }
listed_in o t r (a ∷ b ∷ c ∷ l) p x y h e g k = absurd (omega arith)

-- ── Calls 0, 1 and 2 ────────────────────────────────────────────────────────────────────────────────────────

module _ (r : DrawnCall) (i d : ℕ) where
  pub first_0 : (x : ℕ) → Called r (call (d / 16) 2 x (786 ∷ [])) → x ≡ block (replaced d) → i ≡ 0 → Called r (get_or (first_calls d) i none)
  unfolding first_calls rule_drawn
  first_0 x h e k = rw (k, ← e) h

  pub first_1 : (x y : ℕ) → Called r (call (d / 16) 1 x (y ∷ [])) → x ≡ block_token (d % 64) (d / 64 % 4) → y ≡ donor 0 → i ≡ 1 → Called r (get_or (first_calls d) i none)
  unfolding first_calls rule_drawn replaced
  first_1 x y h e f k = rw (k, ← e, ← f) h

  pub first_2 : (x y : ℕ) → Called r (call (d / 16) 1 x (y ∷ [])) → x ≡ block_token (d / 1024) (d / 256 % 4) → y ≡ donor 1 → i < 3 → (i ≡ 0 → ⊥) → (i ≡ 1 → ⊥) → Called r (get_or (first_calls d) i none)
  unfolding first_calls rule_drawn
  first_2 x y h e f k l m = let z : i ≡ 2 = omega arith in rw (z, ← e, ← f) h

-- ── A call in a block ───────────────────────────────────────────────────────────────────────────────────────

module _ (r : DrawnCall) (later : Bool) (b w p t x : ℕ) (token : t ≡ block_token b (token_drawn p)) (first : x ≡ donor_drawn p) where
  pub free_0 : (u : ℕ) → Called r (call (w / 16) 0 u (x ∷ [])) → u ≡ block b → w % 8 ≡ 0 → Called r (free_call later b w p)
  unfolding free_call rule_drawn
  free_0 u h e k = rw (k, ← e, ← first) h

  pub free_1 : Called r (call (w / 16) 1 t (x ∷ [])) → (w % 8 ≡ 0 → ⊥) → w % 8 < 3 → Called r (free_call later b w p)
  unfolding free_call rule_drawn
  free_1 h k l = rw (ne_eqb (w % 8) 0 k, lt-ltb (w % 8) 3 l, ← token, ← first) h

  pub free_3 : (u y : ℕ) → Called r (call (w / 16) 1 u (x ∷ y ∷ [])) → u ≡ separator b → y ≡ other_drawn p → w % 8 ≡ 3 → Called r (free_call later b w p)
  unfolding free_call rule_drawn
  free_3 u y h e f k = rw (k, ← e, ← f, ← first) h

  pub free_4 : Called r (call (w / 16) 2 t (x ∷ [])) → 3 ≤ w % 8 → (w % 8 ≡ 3 → ⊥) → w % 8 < 6 → Called r (free_call later b w p)
  unfolding free_call rule_drawn
  free_4 h k l m = rw (ne_eqb (w % 8) 0 (λ z. omega arith), le-ltb (w % 8) 3 k, ne_eqb (w % 8) 3 l, lt-ltb (w % 8) 6 m, ← token, ← first) h

  pub free_6 : Called r (call (w / 16) 3 t []) → w % 8 ≡ 6 → Called r (free_call later b w p)
  unfolding free_call rule_drawn
  free_6 h k = rw (k, ← token) h

  pub free_7 : (u : ℕ) → Called r (call (w / 16) 3 u []) → u ≡ block b → 6 ≤ w % 8 → (w % 8 ≡ 6 → ⊥) → later ≡ true → Called r (free_call later b w p)
  unfolding free_call rule_drawn
  free_7 u h e k l m = let z : w % 8 ≡ 7 = omega arith in rw (z, m, ← e) h

  pub free_else : (u : ℕ) → Called r (call (w / 16) 1 u (x ∷ [])) → u ≡ separator b → 6 ≤ w % 8 → (w % 8 ≡ 6 → ⊥) → later ≡ false → Called r (free_call later b w p)
  unfolding free_call rule_drawn
  free_else u h e k l m = let z : w % 8 ≡ 7 = omega arith in rw (z, m, ← e, ← first) h

-- ── The only call in a block ────────────────────────────────────────────────────────────────────────────────

module _ (r : DrawnCall) (b w p t x : ℕ) (token : t ≡ block_token b (token_drawn p)) (first : x ≡ donor_drawn p) where
  pub own_0 : (y : ℕ) → Called r (call (w / 16) 4 t (x ∷ y ∷ [])) → y ≡ other_drawn p → w % 2 ≡ 0 → Called r (own_call b w p)
  unfolding own_call rule_drawn
  own_0 y h f k = rw (k, ← token, ← first, ← f) h

  pub own_1 : (u : ℕ) → Called r (call (w / 16) 5 u (t ∷ x ∷ [])) → u ≡ block_token b 0 → (w % 2 ≡ 0 → ⊥) → Called r (own_call b w p)
  unfolding own_call rule_drawn
  own_1 u h e k = rw (ne_eqb (w % 2) 0 k, ← e, ← token, ← first) h

-- ── Call i ──────────────────────────────────────────────────────────────────────────────────────────────────

module _ (r : DrawnCall) (i w p : ℕ) where
  pub at_low : Called r (free_call false (p % 64) w p) → i < 32 → Called r (call_at i w p)
  unfolding call_at
  at_low h k = rw (lt-ltb i 32 k) h

  pub at_editor : Called r further_editor → i ≡ 32 → Called r (call_at i w p)
  unfolding call_at
  at_editor h k = rw k h

  pub at_high : Called r (free_call true (64 + p % 32) w p) → 32 ≤ i → (i ≡ 32 → ⊥) → i < 64 → Called r (call_at i w p)
  unfolding call_at
  at_high h k l m = rw (le-ltb i 32 k, ne_eqb i 32 l, lt-ltb i 64 m) h

  pub at_own : Called r (own_call (i + 32) w p) → 64 ≤ i → Called r (call_at i w p)
  unfolding call_at
  at_own h k = rw (le-ltb i 32 (omega arith), ne_eqb i 32 (λ z. omega arith), le-ltb i 64 k) h
