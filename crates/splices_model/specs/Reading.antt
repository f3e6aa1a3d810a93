-- A splice as it is read from its words.
-- Assumes nothing.
use Rattle.std.specs.Prelude.{List, ℕ, ◌+◌, ◌*◌, ◌≤◌, length, get_or}
use Rattle.splices_model.specs.declared.list.Splice.{Splice}

-- splice i, as its six words tell it
abbrev pub told : List ℕ → ℕ → Splice
told splices i = record {
  number = get_or splices (6 * i) 0;
  parent = get_or splices (6 * i + 1) 0;
  from = get_or splices (6 * i + 2) 0;
  to = get_or splices (6 * i + 3) 0;
  start = get_or splices (6 * i + 4) 0;
  rows = get_or splices (6 * i + 5) 0;
}

-- its prepared rows lie in the slice
abbrev pub Stocked : List ℕ → List ℕ → ℕ → Type 0
Stocked splices prepared i = 3 * get_or splices (6 * i + 4) 0 + 3 * get_or splices (6 * i + 5) 0 ≤ length prepared
