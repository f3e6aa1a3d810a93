-- `check` meets its contract.
use Rattle.check_claim.proofs.Ways.{all_told}
use Rattle.check_claim.proofs.check.Goals as goal

pub returns-clause-checks : goal.returns-clause-checks
returns-clause-checks c =
    let v = c.check_lists-verdict.ensures in
    all_told _ _ _ _ _ _ _ _ _ v.tells v.long.before v.long.after v.long.partners v.long.marks c.clear_work.ensures.zeros
