use Rattle.kept_rows.proofs.Ways.{Pairing}
use Rattle.kept_rows.proofs.write_kept.Given as goal

abbrev pub invariant-loop-i : goal.invariant-loop-i
invariant-loop-i l = Pairing l.marks l.initial.b l.end l.half l.b l.to l.i
