-- `syntax_check` meets its contract: the number of what `check` tells.
-- Assumes nothing.
use Rattle.syntax_check.proofs.Returned.{checks_by, check_returned}
use Rattle.syntax_check.proofs.syntax_check.Goals as goal

pub verdict_number-requires : goal.verdict_number-requires
verdict_number-requires c = checks_by c.check-verdict.ensures.checks

pub returns : goal.returns
returns c =
    let s = c.check-verdict.ensures.same in
    rw (c.old-1.given.1.1 s.0, c.new-1.given.1.1 s.1, c.partners-1.given.1.1 s.2, c.marks-1.given.1.1 s.3) (check_returned c.check-verdict.ensures.checks _ c.verdict_number.ensures)
