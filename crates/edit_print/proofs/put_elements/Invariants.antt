use Rattle.definition.specs.Printed.{element_line}
use Rattle.edit_print.proofs.Turns.{Putting}
use Rattle.edit_print.specs.Held.{pairs_of}
use Rattle.edit_print.proofs.put_elements.Given as goal

abbrev pub invariant-loop-i : goal.invariant-loop-i
invariant-loop-i l = Putting element_line 24 (pairs_of l.elements) l.initial.out l.at l.out l.to l.i
