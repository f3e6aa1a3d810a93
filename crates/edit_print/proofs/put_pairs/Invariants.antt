use Prim.Native.Nat.{◌+◌}
use lib.ListN.{length}
use Rattle.edit_print.proofs.Turns.{Putting}
use Rattle.edit_print.specs.Held.{pairs_of}
use Rattle.edit_print.specs.Lines.{pair_line}
use Rattle.edit_print.proofs.put_pairs.Given as goal

abbrev pub invariant-loop-i : goal.invariant-loop-i
invariant-loop-i l = Putting (pair_line l.name) (length l.name + 23) (pairs_of l.pairs) l.initial.out l.at l.out l.to l.i
