-- The lists of a load, stage by stage: trees and calls as lent, the rest as the starting number says.
-- Assumes nothing.
use Rattle.std.specs.Prelude.{◌≡◌, refl, ℕ, length}
use mathlib.Core.List.{List, [], ◌∷◌, map, flat_map}
use Rattle.definition.specs.Writing.{Lists}
use Rattle.load_laws.specs.Load.{drawn, block, replaced, copy, elements, kind_at, measure_at, byte_at, along, calls, noted, load}

-- with a load's mapping and notes
unfoldable pub with_notes : ℕ → List ℕ → List ℕ → List ℕ → List ℕ → List ℕ → List ℕ → List ℕ → List ℕ → Lists
with_notes start kinds measures text operations counts rules targets listed = record {
  trees = 3;
  kinds = kinds;
  measures = measures;
  text = text;
  operations = operations;
  counts = counts;
  rules = rules;
  targets = targets;
  listed = listed;
  inputs = block (replaced (drawn start)) ∷ [];
  outputs = copy ∷ [];
  noted = noted start;
  numbers = along (λ n. n) 1 8;
}

-- and its calls
unfoldable pub with_calls : ℕ → List ℕ → List ℕ → List ℕ → Lists
with_calls start kinds measures text =
    with_notes start kinds measures text (map (λ c. c.operation) (calls start)) (map (λ c. length c.listed) (calls start)) (map (λ c. c.rule) (calls start)) (map (λ c. c.target) (calls start))
    (flat_map (λ c. c.listed) (calls start))

-- and its trees
pub with_trees : (start : ℕ) → with_calls start (along kind_at 0 elements) (along measure_at 0 elements) (along byte_at 0 660) ≡ load start
unfolding with_calls with_notes load
with_trees start = refl
