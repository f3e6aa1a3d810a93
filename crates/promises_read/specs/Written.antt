-- THE WRITER, of every call that keeps its promise: what each lent slice holds then, and document 02's two sentences.
-- Assumes nothing.
use Rattle.std.specs.Prelude.{◌≡◌, List, [], ◌∷◌, ℕ, ◌≤◌, take}
use Rattle.std.proofs.Math.ListN.{length, drop}
use Rattle.definition.specs.Basics.{gives}
use Rattle.definition.specs.Writing.{Lists, write}

-- THE NUMBERS that the call can give
abbrev pub write_numbers : List ℕ
write_numbers = 1 ∷ 14 ∷ 15 ∷ []

-- a batch of n bytes at the front of the destination, and beyond it what was held
pub record Laid (l : Lists) (held : List ℕ) (n : ℕ) (holds : List ℕ) : Type 0 where
  pub batch : List ℕ
  pub writes : write l (length held) ≡ gives batch
  pub size : length batch ≡ n
  pub room : n ≤ length held
  pub front : take n holds ≡ batch
  pub beyond : drop n holds ≡ drop n held
