-- `write_result` meets its contract. 13 is judged by the sizes, before anything is written.
use Rattle.finish_result.proofs.Turns.{result_short, result_written}
use borrow.Author.Rules.{rules}
use Rattle.finish_result.proofs.write_result.Goals as goal

pub returns-then-res-total : goal.returns-then-res-total
returns-then-res-total c = search (result_short, rules)

pub returns : goal.returns
returns c = search (result_written, rules)
