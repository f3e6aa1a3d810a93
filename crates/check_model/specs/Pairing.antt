-- The partners of the new elements, written pair by pair; marks, written element by element; partners that rise.
-- Assumes nothing.
use Rattle.std.specs.Prelude.{◌≡◌, ℕ, ◌<◌}
use mathlib.Core.List.{List}
use Rattle.orders.specs.Lists.{All, Pairs}

-- every number of a list is below n
abbrev pub Below : ℕ → List ℕ → Type 0
Below n l = All (λ x. x < n) l

-- every new element is one
abbrev pub Within : ℕ → List (ℕ × ℕ) → Type 0
Within m P = All (λ p. p.1 < m) P

-- no new element stands twice
abbrev pub Apart : List (ℕ × ℕ) → Type 0
Apart P = Pairs (λ p q. p.1 ≡ q.1 → ⊥) P
