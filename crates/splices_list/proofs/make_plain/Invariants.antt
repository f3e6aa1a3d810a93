use Rattle.splices_list.proofs.Turns.{Plaining}
use Rattle.splices_list.proofs.make_plain.Given as goal

abbrev pub invariant-loop-i : goal.invariant-loop-i
invariant-loop-i l = Plaining l.initial.rows l.n l.rows l.i
