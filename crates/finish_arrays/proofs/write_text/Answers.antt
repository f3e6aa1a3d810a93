-- `write_text` meets its contract. The text of the rows passed is written, once the stretch is copied.
use borrow.Author.Rules.{rules}
use native.Mathlib.Omega.{arith}
use Rattle.finish_arrays.proofs.Turns.{pending, pending_next, pending_done}
use Rattle.finish_arrays.proofs.write_text.Goals as goal

pub loop-i-init : goal.loop-i-init
loop-i-init c = pending _ _ _ _ (omega arith)

pub loop-i-preserved : goal.loop-i-preserved
loop-i-preserved c = search (pending_next, rules)

pub returns : goal.returns
returns c = search (pending_done, rules)
