use Rattle.load_lists.specs.Turns.{PassedTo}
use Rattle.load_lists.proofs.after_draws.Given as goal

abbrev pub invariant-loop : goal.invariant-loop
invariant-loop l = PassedTo l.n l.start l.present l.counter
