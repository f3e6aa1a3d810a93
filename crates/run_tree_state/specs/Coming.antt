-- What comes in with a step is in bounds, as a fact that a value carries.
-- Assumes nothing.
use Rattle.std.proofs.Props.{props}
use Rattle.std.specs.Prelude.{◌≡◌, List, ℕ, ◌%◌, ◌^◌, ◌≤◌, ◌<◌, length}
use Rattle.orders.specs.Lists.{All}
use Rattle.orders.specs.ListLaws.{all_prop}
use Rattle.run_annotations.specs.Places.{part_rows}

-- parts in words: a run of rows, the number of rows of each, and notes
pub record Coming (run sizes incoming : List ℕ) : Type 0 where
  pub whole : length run % 3 ≡ 0
  pub short : length run ≤ 12288
  pub few_parts : length sizes ≤ 1024
  pub sized : All (λ x. x < 2 ^ 16) sizes
  pub placed : All (λ x. x < 2 ^ 16) (part_rows 0 sizes)
  pub whole_notes : length incoming % 3 ≡ 0
  pub few_notes : length incoming ≤ 3072

-- there is at most one proof of it
pub coming_prop : (run sizes incoming : List ℕ) → IsProp (Coming run sizes incoming)
coming_prop run sizes incoming = hlevel (all_prop, props)
