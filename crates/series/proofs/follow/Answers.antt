-- `follow` meets its contract.
use mathlib.Core.Path.{ap, ◌∙◌}
use native.Mathlib.Omega.{arith}
use Rattle.definition.specs.Answers.{too_short}
use Rattle.promises.specs.Slices.{long_enough}
use Rattle.promises.proofs.Alike.{asked_alike, zeroed_alike}
use Rattle.series.specs.Promises.{follow_answers, follow_told}
use Rattle.series.proofs.follow.Goals as goal

pub answer-told-requires : goal.answer-told-requires
answer-told-requires c = follow_answers c.perform-done.ensures.performs _ λ h. omega (arith, (long_enough _ _ _ _ _ _ _ _ _ (ap too_short (asked_alike _ _ c.perform-done.ensures.lengths) ∙ h)).1.5)

pub returns-clause-follows : goal.returns-clause-follows
returns-clause-follows c = follow_told c.perform-done.ensures.performs c.answer-told.ensures (c.clear_all.ensures.zeros ∙ zeroed_alike _ _ (rw (c.answer-told.auto.notes, c.answer-told.auto.changed, c.answer-told.auto.starts) c.perform-done.ensures.lengths))
