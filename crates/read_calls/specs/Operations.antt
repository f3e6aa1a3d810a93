-- The number of an operation in a call word and in a change row.
-- Assumes nothing.
use Rattle.std.specs.Prelude.{ℕ}
use Rattle.read_calls.specs.declared.Operation.{Operation}
use Rattle.read_calls.specs.declared.Operation.TheVariants.{FirstChild, After, Replace, Delete, ReplaceWithMany, ReplaceAll}

-- the paper's number of a change
abbrev pub operation_number : Operation → ℕ
operation_number FirstChild = 0
operation_number After = 1
operation_number Replace = 2
operation_number Delete = 3
operation_number ReplaceWithMany = 4
operation_number ReplaceAll = 5
