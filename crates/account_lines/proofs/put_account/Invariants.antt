use Rattle.account_lines.proofs.Turns.{Putting}
use Rattle.account_lines.proofs.put_account.Given as goal

abbrev pub invariant-loop-i : goal.invariant-loop-i
invariant-loop-i l = Putting l.rows l.withdrawn l.initial.out l.out l.to l.place l.i
