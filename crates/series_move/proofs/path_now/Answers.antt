-- `path_now` meets its contract. The child numbers passed are written.
use mathlib.Core.Path.{refl}
use Rattle.series_move.specs.Paths.{writing_start, writing_row, writing_next, writing_done}
use Rattle.series_move.proofs.path_now.Goals as goal

pub loop-j-init : goal.loop-j-init
loop-j-init c = writing_start _ _ _ _ _ _ _ c.word_or_zero-mark.ensures

pub overflow_sub-x : goal.overflow_sub-x
overflow_sub-x c = writing_row c.loop-j.invariant c.args.ways.now.told c.loop-j-test.true c.child_at-x.ensures.0 c.requires.stands

pub loop-j-preserved : goal.loop-j-preserved
loop-j-preserved c = writing_next c.loop-j.invariant c.args.ways.now.told c.loop-j-test.true c.child_at-x.ensures.0 c.requires.path_in_bounds c.word_or_zero-here.ensures c.word_or_zero-behind.ensures.0 c.word_or_zero.ensures.0 c.saturating_sub.ensures

pub shape_of-out : goal.shape_of-out
shape_of-out c = c.loop-j.invariant.same

pub returns : goal.returns
returns c = writing_done c.loop-j.invariant c.loop-j-test.false refl
