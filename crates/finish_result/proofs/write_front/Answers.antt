-- `write_front` meets its contract: the sweep, then the sizes, of which the first is what the sweep returned.
use Rattle.finish_result.proofs.Turns.{front_written}
use borrow.Author.Rules.{rules}
use Rattle.finish_result.proofs.write_front.Goals as goal

pub returns : goal.returns
returns c = search (front_written, rules)
