-- `draw_calls` meets its contract: the first i calls are in the lists.
use Rattle.load_lists.specs.Turns.{calls_first, calls_turn, calls_last}
use borrow.Author.Rules.{rules}
use Rattle.load_lists.proofs.draw_calls.Goals as goal

pub loop-i-init : goal.loop-i-init
loop-i-init c = search (calls_first, rules)

pub loop-i-preserved : goal.loop-i-preserved
loop-i-preserved c = search (calls_turn, rules)

pub returns : goal.returns
returns c = search (calls_last, rules)
