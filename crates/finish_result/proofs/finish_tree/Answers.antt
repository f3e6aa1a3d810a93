-- `finish_tree` meets its contract: in order, then written.
use Rattle.finish_result.proofs.Stages.{tree_answered}
use borrow.Author.Rules.{rules}
use Rattle.finish_result.proofs.finish_tree.Goals as goal

pub returns : goal.returns
returns c = search (tree_answered, rules)
