-- `judge_start` meets its contract.
use Rattle.series.specs.Promises.{start_short, start_long}
use Rattle.series.proofs.judge_start.Goals as goal

pub returns-then-rows-lt-ROWS : goal.returns-then-rows-lt-ROWS
returns-then-rows-lt-ROWS c = start_short _ _ c.if-rows-lt-ROWS.true

pub returns : goal.returns
returns c = start_long _ _ _ c.if-rows-lt-ROWS.false c.judge.ensures
