-- `scan_tree` meets its contract. The invariant: the starts of the rows passed stand at the front, and what is still owed ends the tree.
use borrow.Author.Rules.{rules}
use native.Mathlib.Omega.{arith}
use Rattle.finish_arrays.proofs.Turns.{scanning, scanning_room, scanning_next, scanning_done, scanning_out}
use Rattle.finish_arrays.proofs.scan_tree.Goals as goal

pub loop-i-init : goal.loop-i-init
loop-i-init c = search (scanning, rules)

pub returns-then-owed-eq0 : goal.returns-then-owed-eq0
returns-then-owed-eq0 c = search (scanning_done, rules)

pub overflow_add-size : goal.overflow_add-size
overflow_add-size c = omega (arith, scanning_room c.loop-i.invariant c.requires.2 c.loop-i-test.true c.own_length-size.ensures)

pub loop-i-preserved : goal.loop-i-preserved
loop-i-preserved c = search (scanning_next, rules)

pub returns : goal.returns
returns c = search (scanning_out, rules)
