-- `serve` meets its contract: the batch is performed, the job answered, and every work slice is cleared.
use mathlib.Core.Path.{ap, ◌∙◌}
use native.Mathlib.Omega.{arith}
use Rattle.definition.specs.Answers.{too_short}
use Rattle.promises.specs.Slices.{long_enough}
use Rattle.promises.proofs.Alike.{asked_alike, zeroed_alike}
use Rattle.edit_algo.proofs.Ways.{to_answer, job_performed, serves_cleared}
use Rattle.edit_algo.proofs.serve.Goals as goal

pub answer-told-requires : goal.answer-told-requires
answer-told-requires c = to_answer c.perform-done.ensures.performs _ λ h. omega (arith, (long_enough _ _ _ _ _ _ _ _ _ (ap too_short (asked_alike _ _ c.perform-done.ensures.lengths) ∙ h)).1.5)

pub returns-clause-serves : goal.returns-clause-serves
returns-clause-serves c = serves_cleared _ _ _ _ _ _ _ _ _ (job_performed c.perform-done.ensures.performs _ _) c.answer-told.ensures c.clear_all.ensures.zeros (zeroed_alike _ _ (rw (c.answer-told.auto.notes, c.answer-told.auto.changed, c.answer-told.auto.starts) c.perform-done.ensures.lengths))
