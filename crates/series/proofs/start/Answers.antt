-- `start` meets its contract.
use Rattle.series.specs.Promises.{start_told}
use Rattle.series.proofs.start.Goals as goal

pub returns : goal.returns
returns c = start_told c.judge_start-told.ensures c.judge_start-told.auto.rows (c.fill.ensures.after (λ y e. e))
