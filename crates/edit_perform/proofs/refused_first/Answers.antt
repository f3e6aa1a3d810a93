-- `refused_first` meets its contract: 17, 18, 1, or nothing.
use Rattle.std.proofs.lemmas.Result.{err_from_is_err_and}
use Rattle.edit_perform.proofs.Stages.{wrong_choice, refused_1, refused_0}
use Rattle.edit_perform.proofs.refused_first.Goals as goal

pub returns-in_err-judge : goal.returns-in_err-judge
returns-in_err-judge c =
    let p = err_from_is_err_and c.from_residual.result c.from_residual.ensures.1 in
    rw (p.1, p.2) (wrong_choice _ _ c.judge.ensures _ c.in_err-judge.was)

pub returns-then-too_short : goal.returns-then-too_short
returns-then-too_short c = refused_1 _ _ c.judge.ensures c.in_ok-judge.was _ c.too_short.ensures c.if-too_short.true

pub returns : goal.returns
returns c = refused_0 _ _ c.judge.ensures c.in_ok-judge.was _ c.too_short.ensures c.if-too_short.false
