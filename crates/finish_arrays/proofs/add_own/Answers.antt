-- `add_own` meets its contract: each way out is a law of stretches.
use Rattle.finish_arrays.specs.Stretches.{added_on, added_anew}
use Rattle.finish_arrays.proofs.Turns.{own_stands}
use Rattle.finish_arrays.proofs.add_own.Goals as goal

pub returns-then-start-stretch : goal.returns-then-start-stretch
returns-then-start-stretch c =
    let a = c.args in
    let e = c.own_length-len.ensures in
    added_on _ _ _ c.requires.0 _ e (own_stands a.tree.now a.text.now a.i e c.if-len-eq0.false c.word-start.ensures.0) c.requires.1 c.if-start-stretch.true

pub returns : goal.returns
returns c =
    let a = c.args in
    let e = c.own_length-len.ensures in
    added_anew _ _ _ c.requires.0 _ e (own_stands a.tree.now a.text.now a.i e c.if-len-eq0.false c.word-start.ensures.0) c.copy_stretch.ensures
