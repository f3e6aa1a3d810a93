-- `start_of` meets its contract: n is what the first i bytes tell.
-- Assumes nothing.
use Rattle.load_program.specs.Start.{ReadTo}
use Rattle.load_program.proofs.start_of.Given as goal

abbrev pub invariant-loop-byte : goal.invariant-loop-byte
invariant-loop-byte l = ReadTo l.argument l.n l.byte-index
