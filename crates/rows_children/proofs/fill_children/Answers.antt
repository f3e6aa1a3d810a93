-- `fill_children` meets its contract. The invariant: the children of the rows from i on are told, and the roots from `top` on are those of the trees that begin there.
use borrow.Author.Rules.{rules}
use Rattle.rows_children.proofs.Turns.{owed_least, building_start, building_next, building_done}
use Rattle.rows_children.proofs.fill_children.Goals as goal

pub loop-i-init : goal.loop-i-init
loop-i-init c = search (building_start, rules)

pub loop-i-preserved : goal.loop-i-preserved
loop-i-preserved c = building_next c.loop-i.invariant (search rules) (search rules) c.child_count.ensures (owed_least c.min-c.ensures) c.requires c.copy_in.ensures

pub returns : goal.returns
returns c = search (building_done, rules)
