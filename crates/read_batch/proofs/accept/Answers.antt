-- `accept` meets its contract: lines 2 to 4 refuse, or the others answer.
use mathlib.Core.Path.{refl}
use borrow.Author.Rules.{rules}
use Rattle.read_batch.proofs.Judging.{is_laid, is_within, unlaid}
use Rattle.read_batch.proofs.accept.Goals as goal

pub invariant_of-batch : goal.invariant_of-batch
invariant_of-batch c = record { within = is_within _ _ c.in_ok-layout.ensures _ refl }

pub judge-requires-clause-laid : goal.judge-requires-clause-laid
judge-requires-clause-laid c = is_laid _ _ c.in_ok-layout.ensures _ refl

pub returns-in_err-layout : goal.returns-in_err-layout
returns-in_err-layout c = search (unlaid, rules)
