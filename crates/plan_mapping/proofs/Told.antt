-- What is told of an element: a word that names it by its number and 1, or is 0; and the refusal in place of none.
-- Assumes nothing.
use mathlib.Core.Path.{◌≡◌, refl}
use Prim.Native.Nat.{ℕ, ◌-◌, ◌≤◌}
use native.Mathlib.Omega.{arith}
use Rattle.std.specs.Prelude.{Option, Some, None, Err, SomeIff}
use Rattle.std.specs.Option.{ok_or}

module _ {o : Option ℕ} {p : ℕ} (q : SomeIff o (1 ≤ p) (p - 1)) where
  pub names_none : o ≡ None → p ≡ 0
  names_none z = omega (arith, rw z at q)

  pub names_some : {x : ℕ} → o ≡ Some x → (x ≡ p - 1) × (p ≡ 0 → ⊥)
  names_some z = let h = rw z at q in (h.1, λ y. omega (arith, h.0, y))

-- nothing is refused as it is told
pub nothing : {A E : Type 0} {e v : E} (o : Option A) → ok_or o e ≡ Err v → (o ≡ None) × (v ≡ e)
nothing None q = (refl, grind arith)
nothing (Some x) q = absurd (grind arith)
