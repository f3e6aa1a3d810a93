-- `judge` meets its contract: line 5 refuses, or the table is filled and lines 6 and 7 answer.
use Rattle.read_batch.proofs.Judging.{wrong_elements, may_judge, judges}
use Rattle.read_batch.proofs.judge.Goals as goal

pub returns-then-not-fill : goal.returns-then-not-fill
returns-then-not-fill c = wrong_elements _ _ _ c.fill.ensures.spelled _ _ _ _ c.requires.laid c.if-not-fill.true

pub invariant_of-elements : goal.invariant_of-elements
invariant_of-elements c =
    let f = c.fill.ensures in
    let w = c.args.batch.now.within in
    let p = c.if-not-fill.false in
    record { formed = may_judge _ _ _ f.spelled c.requires.laid p _ _ _ _ (f.filled p) w c.requires.in_bounds.0 c.requires.in_bounds.1 }

pub returns : goal.returns
returns c =
    let f = c.fill.ensures in
    let p = c.if-not-fill.false in
    judges _ _ _ f.spelled c.requires.laid p _ _ _ _ (f.filled p) c.args.batch.now.within c.requires.in_bounds.0 c.requires.in_bounds.1 c.judge_names.result c.judge_names.ensures
