use Rattle.splices_list.proofs.Turns.{Going}
use Rattle.splices_list.proofs.splice_each.Given as goal

abbrev pub invariant-loop-k : goal.invariant-loop-k
invariant-loop-k l = Going l.initial.rows l.n l.initial.marks l.list.splices.words.now l.list.prepared.now l.list.splices.count l.rows l.m l.marks l.k
