-- `hand_over` meets its contract: lines 3 to 7 refuse, or what there is room for is copied.
use Rattle.write_batch.proofs.Ways.{laid_wrong, laid_right}
use Rattle.write_batch.proofs.hand_over.Goals as goal

pub returns-then-is_err : goal.returns-then-is_err
returns-then-is_err c = laid_wrong _ _ c.accept.ensures _ c.is_err.ensures.value c.if-is_err.true

pub returns : goal.returns
returns c = laid_right _ _ c.accept.ensures _ c.is_err.ensures.value c.if-is_err.false c.copy_out.ensures
