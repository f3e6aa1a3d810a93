-- `fill_begun` meets its contract. The invariant: the trees that begin from row i on are counted.
use native.Mathlib.Omega.{arith}
use borrow.Author.Rules.{rules}
use Rattle.rows_children.proofs.Turns.{counting_start, counting_next, counting_done}
use Rattle.rows_children.proofs.fill_begun.Goals as goal

pub loop-i-init : goal.loop-i-init
loop-i-init c = search (counting_start, rules)

pub loop-i-preserved : goal.loop-i-preserved
loop-i-preserved c = counting_next c.loop-i.invariant (search rules) (search rules) (search rules) c.child_count.ensures (omega (arith, c.saturating_sub-trees.ensures))

pub returns : goal.returns
returns c = search (counting_done, rules)
