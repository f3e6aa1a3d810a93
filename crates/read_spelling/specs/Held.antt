-- What elements that stand in some bytes are, each with kind word and measure.
-- Assumes nothing.
use Rattle.std.specs.Prelude.{ℕ, List}
use Rattle.read_spelling.specs.Spelling.{elements_at}
use Rattle.read_spelling.specs.declared.columns.Columns.{Columns}

abbrev pub elements_of : Columns → List (ℕ × ℕ)
elements_of c = elements_at c.bytes.now c.kinds c.measures c.count
