-- `write_column` meets its contract. The words of the items passed are written, whatever they are.
use native.Mathlib.Omega.{arith}
use Rattle.words.proofs.Turns.{writing_next}
use Rattle.finish_result.proofs.write_column.Goals as goal

pub loop-i-preserved : goal.loop-i-preserved
loop-i-preserved g c = λ xs e f. writing_next (c.loop-i.invariant xs e f) (omega (arith, c.loop-i-test.true)) (omega (arith, c.requires.room)) (f c.loop-i.i c.item.result c.loop-i-test.true c.item.ensures) c.write_word.auto.b c.write_word.ensures
