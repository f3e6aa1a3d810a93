use Rattle.edit_print.proofs.Turns.{Putting}
use Rattle.definition.specs.Printed.{hex}
use Rattle.edit_print.proofs.put_bytes.Given as goal

abbrev pub invariant-loop-byte : goal.invariant-loop-byte
invariant-loop-byte l = Putting hex 2 l.text l.initial.out l.at l.out l.to l.byte-index
