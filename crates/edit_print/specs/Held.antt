-- Pairs of numbers as one value.
-- Assumes nothing.
use Rattle.std.specs.Prelude.{List, ℕ}
use Rattle.edit_print.specs.Lines.{pairs_at}
use Rattle.edit_print.specs.declared.pairs.Pairs.{Pairs}

-- the pairs themselves
abbrev pub pairs_of : Pairs → List (ℕ × ℕ)
pairs_of p = pairs_at p.bytes.now p.at p.count
