-- What is read of a program's arguments, and the choices that it gives.
-- Assumes nothing.
use Rattle.std.specs.Prelude.{◌≡◌, List, [], ◌∷◌, ℕ, ◌-◌, ◌≤◌, length, take}
use Rattle.definition.specs.Choices.{given}
use Rattle.choices.specs.declared.Choices.{Choices}
use Rattle.choices.specs.Meant.{meant}

-- of `count` arguments, the program's name among them, those after it that are read
abbrev pub arguments : ℕ → List ℕ → List ℕ → List (List ℕ)
arguments count first second = take (count - 1) (first ∷ second ∷ [])

-- the first m bytes of one buffer and the first n of another, as the first and the second of `count` arguments, give these choices
pub record Given (first second : List ℕ) (count m n : ℕ) (c : Choices) : Type 0 where
  pub fits : m ≤ length first
  pub fits_too : n ≤ length second
  pub gives : meant c ≡ given (arguments count (take m first) (take n second))

-- some arguments give these choices
pub record Gives (c : Choices) : Type 0 where
  pub said : List (List ℕ)
  pub gives : meant c ≡ given said
