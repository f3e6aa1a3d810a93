-- `after_draws` meets its contract: as many draws are passed as turns are made.
use Rattle.load_lists.specs.Turns.{passed_first, passed_turn, passed_last}
use borrow.Author.Rules.{rules}
use Rattle.load_lists.proofs.after_draws.Goals as goal

pub loop-init : goal.loop-init
loop-init c = search (passed_first, rules)

pub loop-preserved : goal.loop-preserved
loop-preserved c = search (passed_turn, rules)

pub returns : goal.returns
returns c = search (passed_last, rules)
