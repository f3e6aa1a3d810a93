use Rattle.edit_print.proofs.Turns.{Putting}
use Rattle.edit_print.specs.Lines.{spaced}
use Rattle.edit_print.proofs.put_numbers.Given as goal

abbrev pub invariant-loop-n : goal.invariant-loop-n
invariant-loop-n l = Putting spaced 11 l.ns l.initial.out l.at l.out l.to l.n-index
