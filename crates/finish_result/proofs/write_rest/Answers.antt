-- `write_rest` meets its contract: the arrays, and the text behind them.
use Rattle.finish_result.proofs.Turns.{rest_written}
use borrow.Author.Rules.{rules}
use Rattle.finish_result.proofs.write_rest.Goals as goal

pub returns : goal.returns
returns c = search (rest_written, rules)
