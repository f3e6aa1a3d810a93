-- What is not refused: each part of it was not.
-- Assumes nothing.
use Rattle.std.specs.Prelude.{◌≡◌, refl, Bool, true, false, ℕ}
use Rattle.std.proofs.Math.Option.{Option, none, some, bind}
use Rattle.std.proofs.Common.{arith}
use Rattle.orders.specs.ListLaws.{bind_some}
use Rattle.definition.specs.Basics.{Answer, refused, gives, ◌>>=◌, refuse, or_refuse}

pub gives_inj : {A : Type 0} {a b : A} → ◌≡◌ {A = Answer A} (gives a) (gives b) → a ≡ b
gives_inj e = cc

pub refused_inj : {A : Type 0} {j k : ℕ} → ◌≡◌ {A = Answer A} (refused j) (refused k) → j ≡ k
refused_inj e = cc

pub refused_gives {ℓ} : {A : Type 0} {X : Type ℓ} {n : ℕ} {a : A} → ◌≡◌ {A = Answer A} (refused n) (gives a) → X
refused_gives e = absurd (let z : ◌≡◌ {A = ℕ} 0 1 = cc in omega arith)

pub both_given : {A B : Type 0} (o : Answer A) (f : A → Answer B) {b : B} → (o >>= f) ≡ gives b → (a : A) × (o ≡ gives a) × (f a ≡ gives b)
unfolding ◌>>=◌
both_given (refused n) f e = refused_gives e
both_given (gives a) f e = (a, refl, e)

-- the same for what follows from it
pub given {ℓ} : {A B : Type 0} {X : Type ℓ} (o : Answer A) (f : A → Answer B) {b : B} → (o >>= f) ≡ gives b → ((a : A) → o ≡ gives a → f a ≡ gives b → X) → X
given o f e k = let r = both_given o f e in k r.0 r.1 r.2

pub not_wrong : (n : ℕ) (wrong : Bool) {u : Unit {0}} → refuse n wrong ≡ gives u → wrong ≡ false
unfolding refuse
not_wrong n true e = refused_gives e
not_wrong n false e = refl

pub is_there : {A : Type 0} (n : ℕ) (o : Option A) {a : A} → or_refuse n o ≡ gives a → o ≡ some a
unfolding or_refuse
is_there n none e = refused_gives e
is_there n (some x) e = cc

-- what is there where something follows from it
pub bound {ℓ} : {A B : Type 0} {X : Type ℓ} (o : Option A) (f : A → Option B) {b : B} → bind o f ≡ some b → ((a : A) → o ≡ some a → f a ≡ some b → X) → X
bound o f e k = let r = bind_some o f e in k r.0 r.1 r.2
