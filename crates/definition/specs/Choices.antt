-- How a batch is to be edited: the edge rule (document 02, Note 6) and whether stronger rules come first (Note 9), as numbers and as a program's arguments; refusals
-- 17 and 18.
-- Assumes nothing.
use Rattle.std.specs.Prelude.{cond, ◌||◌, List, [], ◌∷◌, ℕ, ◌-◌, ltb}
use Rattle.definition.specs.Basics.{Answer, ◌>>=◌, refuse}

-- how a batch is edited
pub record Choices : Type 0 where
  -- the edge rule, "a number given wherever a batch is edited"
  pub edge : ℕ
  -- stronger rules first, "a choice wherever a batch is edited, off (0) by default or on (1)"
  pub stronger : ℕ

-- "0 without one", "off (0) by default"
unfoldable pub by_default : Choices
by_default = record { edge = 0; stronger = 0 }

-- 17: "an edge rule other than 0 or 1"; 18: "the choice is neither on nor off, checked after 17"
unfoldable pub chosen : Choices → Answer (Unit {0})
chosen h = do
  _ ← refuse 17 (ltb 1 h.edge)
  refuse 18 (ltb 1 h.stronger)

-- a number that no choice has
abbrev pub no_choice : ℕ
no_choice = 10

-- "one digit": its value (48 is '0', 57 is '9'); every other argument, an empty one too, has the number that no choice has
unfoldable pub digit : List ℕ → ℕ
digit [] = no_choice
digit (b ∷ []) = cond (ltb b 48 || ltb 57 b) no_choice (b - 48)
digit (b ∷ c ∷ bs) = no_choice

-- "the programs take it as first argument, one digit, 0 without one", and "the programs' second argument, a digit too": those after the program's name; further ones
-- are not read
unfoldable pub given : List (List ℕ) → Choices
given [] = by_default
given (first ∷ []) = record { edge = digit first; stronger = 0 }
given (first ∷ second ∷ further) = record { edge = digit first; stronger = digit second }
