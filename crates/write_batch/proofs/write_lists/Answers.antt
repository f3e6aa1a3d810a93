-- `write_lists` meets its contract: 1, 14 by the lists alone, or the rest.
use Rattle.write_batch.proofs.Ways.{refused_1, refused_14, may_lay, long_enough, handed_over}
use Rattle.write_batch.proofs.write_lists.Goals as goal

pub returns-then-too_short-clause-told : goal.returns-then-too_short-clause-told
returns-then-too_short-clause-told c = refused_1 _ _ _ _ _ _ c.too_short.ensures c.if-too_short.true

pub returns-then-not-can_be_laid-clause-told : goal.returns-then-not-can_be_laid-clause-told
returns-then-not-can_be_laid-clause-told c = refused_14 _ _ _ _ _ _ c.too_short.ensures c.if-too_short.false _ c.can_be_laid.ensures c.if-not-can_be_laid.true

pub write_in_step-requires : goal.write_in_step-requires
write_in_step-requires c = record { in_step = may_lay _ _ c.can_be_laid.ensures c.if-not-can_be_laid.false; in_bounds = long_enough _ _ _ _ c.too_short.ensures c.if-too_short.false }

pub returns-clause-told : goal.returns-clause-told
returns-clause-told c = handed_over _ _ _ _ _ _ c.too_short.ensures c.if-too_short.false _ c.can_be_laid.ensures c.if-not-can_be_laid.false c.write_in_step.ensures
