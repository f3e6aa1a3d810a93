-- `begin` meets its contract.
use borrow.Author.Rules.{rules}
use Rattle.run_execute.proofs.Beginning.{begins}
use Rattle.run_execute.proofs.begin.Goals as goal

pub returns : goal.returns
returns c = search (begins, rules)
