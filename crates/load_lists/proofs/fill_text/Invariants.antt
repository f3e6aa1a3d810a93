use Rattle.load_lists.specs.Turns.{AlongTo}
use Rattle.load_laws.specs.Load.{byte_at}
use Rattle.load_lists.proofs.fill_text.Given as goal

abbrev pub invariant-loop-i : goal.invariant-loop-i
invariant-loop-i l = AlongTo byte_at l.initial.text l.text l.i
