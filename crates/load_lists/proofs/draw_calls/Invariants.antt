use Rattle.load_lists.specs.Turns.{CallsTo}
use Rattle.load_lists.proofs.draw_calls.Given as goal

abbrev pub invariant-loop-i : goal.invariant-loop-i
invariant-loop-i l = CallsTo l.start l.operations l.counts l.rules l.targets l.listed l.present l.at l.i
