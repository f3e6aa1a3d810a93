-- What stays where some are withdrawn (document 02, Note 9): a part of it, in its order; all of it where none is.
-- Assumes nothing.
use Rattle.std.specs.Prelude.{◌≡◌, Bool, true, ℕ, suc, ◌≤◌, length}
use Rattle.std.proofs.Math.Path.{refl, ap}
use mathlib.Core.List.{List, [], ◌∷◌, map}
use Rattle.std.proofs.Math.Option.{Option, none, some}
use native.Mathlib.Omega.{arith}
use Rattle.orders.specs.Lists.{All, total}
use Rattle.definition_laws.specs.Basics.{total_length}
use Rattle.definition.specs.Withdrawing.{staying}

module _ {A : Type 0} where
  -- one that stays, and one that does not
  pub staying_on : (ws : List (Option ℕ)) (x : A) (l : List A) → staying (none ∷ ws) (x ∷ l) ≡ x ∷ staying ws l
  unfolding staying
  staying_on ws x l = refl

  pub staying_out : (k : ℕ) (ws : List (Option ℕ)) (x : A) (l : List A) → staying (some k ∷ ws) (x ∷ l) ≡ staying ws l
  unfolding staying
  staying_out k ws x l = refl

  -- what each has, each that stays has
  pub staying_all : (P : A → Type 0) (ws : List (Option ℕ)) (l : List A) → All P l → All P (staying ws l)
  unfolding staying
  staying_all P [] l h = tt
  staying_all P (w ∷ ws) [] h = tt
  staying_all P (none ∷ ws) (x ∷ l) h = (h.0, staying_all P ws l h.1)
  staying_all P (some k ∷ ws) (x ∷ l) h = staying_all P ws l h.1

  -- no sum grows
  pub staying_total : (p : A → Bool) (f : A → ℕ) (ws : List (Option ℕ)) (l : List A) → total p f (staying ws l) ≤ total p f l
  unfolding staying total
  staying_total p f [] l = omega arith
  staying_total p f (w ∷ ws) [] = omega arith
  staying_total p f (none ∷ ws) (x ∷ l) = omega (arith, staying_total p f ws l)
  staying_total p f (some k ∷ ws) (x ∷ l) = omega (arith, staying_total p f ws l)

  pub staying_length : (ws : List (Option ℕ)) (l : List A) → length (staying ws l) ≤ length l
  staying_length ws l = omega (arith, staying_total (λ x. true) (λ x. 1) ws l, total_length l, total_length (staying ws l))

  -- where none is withdrawn, all stay
  pub staying_whole : {B : Type 0} (m : List B) (l : List A) → length m ≡ length l → staying (map (λ x. none) m) l ≡ l
  unfolding staying
  staying_whole [] [] e = refl
  staying_whole [] (x ∷ l) e = absurd (omega arith)
  staying_whole (y ∷ m) [] e = absurd (omega arith)
  staying_whole (y ∷ m) (x ∷ l) e = ap {B = List A} (λ r. x ∷ r) (staying_whole m l (omega arith))

-- how many stay is told of any list in step
pub staying_alike : {A B : Type 0} (ws : List (Option ℕ)) (l : List A) (m : List B) → length l ≡ length m → length (staying ws l) ≡ length (staying ws m)
unfolding staying
staying_alike [] l m e = refl
staying_alike (w ∷ ws) [] [] e = refl
staying_alike (w ∷ ws) [] (y ∷ m) e = absurd (omega arith)
staying_alike (w ∷ ws) (x ∷ l) [] e = absurd (omega arith)
staying_alike (none ∷ ws) (x ∷ l) (y ∷ m) e = ap suc (staying_alike ws l m (omega arith))
staying_alike (some k ∷ ws) (x ∷ l) (y ∷ m) e = staying_alike ws l m (omega arith)

-- what is told of those that stay
pub staying_map : {A B : Type 0} (f : A → B) (ws : List (Option ℕ)) (l : List A) → staying ws (map f l) ≡ map f (staying ws l)
unfolding staying
staying_map f [] l = refl
staying_map f (w ∷ ws) [] = refl
staying_map {A} {B} f (none ∷ ws) (x ∷ l) = ap {B = List B} (λ r. f x ∷ r) (staying_map f ws l)
staying_map f (some k ∷ ws) (x ∷ l) = staying_map f ws l
