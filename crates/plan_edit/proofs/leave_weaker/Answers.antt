-- `leave_weaker` meets its contract: off, all stay; on, what `withdraw` leaves.
use Rattle.choices.specs.Meant.{meant}
use borrow.Author.Rules.{rules}
use Rattle.plan_edit.proofs.Judging.{left_off, zeros_long, left_on}
use Rattle.plan_edit.proofs.leave_weaker.Goals as goal

pub returns-then-choices-eq0 : goal.returns-then-choices-eq0
returns-then-choices-eq0 c = search (left_off, rules)

pub returns : goal.returns
returns c = left_on (meant c.args.choices) _ c.args.n _ c.args.withdrawn.now c.if-choices-eq0.false (search (zeros_long, rules)) c.withdraw.ensures
