-- `judge_claims` meets its contract.
-- Assumes nothing.
use Rattle.check_program.proofs.Ways.{whole}
use borrow.Author.Rules.{rules}
use Rattle.check_program.proofs.judge_claims.Goals as goal

pub returns : goal.returns
returns c = whole c.check.ensures.checks (search rules) (search rules) (search rules) (search rules)
