-- What stands at the front of the output, of an argument.
-- Assumes nothing.
use Rattle.std.proofs.Math.Path.{◌≡◌, refl, ap}
use Rattle.std.proofs.Common.{sym, ◌∙◌, take_at}
use Rattle.std.specs.Prelude.{Result, Ok, Err, Some, None, false, ℕ, ◌≤◌}
use mathlib.Core.List.{List, [], ◌∷◌, ◌++◌, zip}
use Rattle.std.proofs.Math.Option.{Option, none, some}
use native.Mathlib.Omega.{arith}
use Rattle.std.proofs.Math.ListN.{length, take, drop, length-append}
use Rattle.program_input.specs.Counts.{IsPrefixLen}
use Rattle.definition.specs.Basics.{refused, gives, ◌>>=◌, any}
use Rattle.definition.specs.Answers.{too_short}
use Rattle.definition.specs.Writing.{laid_out}
use Rattle.definition_laws.specs.Answers.{gives_inj}
use Rattle.promises.specs.Slices.{lengths}
use Rattle.promises.specs.Promises.{left_in}
use Rattle.promises.specs.Writing.{writer_needs, wrote}
use Rattle.refusals.specs.Numbers.{number, answered}
use Rattle.refusals.specs.declared.Refusal.{Refusal}
use Rattle.load_laws.specs.Load.{load}
use Rattle.load_laws.proofs.Good.{load_length}
use Rattle.load_batch.specs.Loads.{Loads, loads_bytes}
use Rattle.std.specs.declared.option.Option as std
use Rattle.orders.specs.Lists.{meant}
use Rattle.load_program.specs.Start.{start_of}

-- the batch of a starting number, nothing without one
unfoldable pub told : Option ℕ → List ℕ
told none = []
told (some start) = laid_out (load start)

-- the first `written` bytes of the output are these
pub record Puts (bytes out : List ℕ) (written : ℕ) : Type 0 where
  pub fits : IsPrefixLen written out
  pub says : take written out ≡ bytes

-- ── The load ────────────────────────────────────────────────────────────────────────────────────────────────

-- work slices of their lengths are long enough
suffice : (a b c : List ℕ) → 49180 ≡ length a → 16384 ≡ length b → 6147 ≡ length c → too_short (lengths writer_needs (a ∷ b ∷ c ∷ [])) ≡ false
unfolding too_short lengths writer_needs zip any
suffice a b c p q r = rw (← p, ← q, ← r) refl

module _ (start : ℕ) (held a b c : List ℕ) (room : 8632 ≤ length held) (p : 49180 ≡ length a) (q : 16384 ≡ length b) (r : 6147 ≡ length c) where
  given : wrote (a ∷ b ∷ c ∷ []) (load start) (length held) ≡ gives (laid_out (load start))
  given = loads_bytes (a ∷ b ∷ c ∷ []) start (length held) (suffice a b c p q r) (omega (arith, (load_length start).1))

  -- a load is not refused
  pub not_refused : (o : Result ℕ Refusal) (r : Refusal) (holds : List ℕ) (left : List (List ℕ)) → Loads start held (a ∷ b ∷ c ∷ []) (answered o) holds left → o ≡ Err r → ⊥
  unfolding answered ◌>>=◌
  not_refused o r holds left h k =
      let e : refused (number r) ≡ gives (length (laid_out (load start))) = rw k at h.answer ∙ rw given refl in
      absurd (let z : ◌≡◌ {A = ℕ} 0 1 = cc in omega arith)

  -- its bytes are put
  pub put_bytes : (o : Result ℕ Refusal) (n : ℕ) (holds : List ℕ) (left : List (List ℕ)) → Loads start held (a ∷ b ∷ c ∷ []) (answered o) holds left → o ≡ Ok n → Puts (laid_out (load start)) holds n
  unfolding answered ◌>>=◌ left_in
  put_bytes o n holds left h k =
      let e : n ≡ length (laid_out (load start)) = gives_inj (rw k at h.answer ∙ rw given refl) in
      let b = laid_out (load start) in
      let f : holds ≡ b ++ drop (length b) held = h.destination ∙ rw given refl in
      let t : take n holds ≡ laid_out (load start) = rw (f, e) (take_at b (drop (length b) held) (length b) refl) in
      record { fits = (omega (arith, e, ap length f, length-append b (drop (length b) held)), e ∙ ap length (sym t)); says = t }

-- ── An argument ─────────────────────────────────────────────────────────────────────────────────────────────

module _ (a : List ℕ) (o : std.Option ℕ) (e : meant o ≡ start_of a) (out : List ℕ) where
  pub respond_number : (n m : ℕ) → o ≡ Some n → Puts (laid_out (load n)) out m → Puts (told (start_of a)) out m
  unfolding told
  respond_number n m k p = rw (← e, k) p

  pub respond_none : o ≡ None → Puts (told (start_of a)) out 0
  unfolding told
  respond_none k = rw (← e, k) (record { fits = (omega arith, refl); says = refl })
