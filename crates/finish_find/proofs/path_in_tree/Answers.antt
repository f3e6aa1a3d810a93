-- `path_in_tree` meets its contract. At the loop's head the path is that of the element where it stands, and the numbers passed.
use borrow.Author.Rules.{rules}
use Rattle.finish_find.proofs.OldPath.{rising_start, rising_room, rising_less, rising_next, rising_done}
use Rattle.finish_find.proofs.path_in_tree.Goals as goal

pub loop-parent-init : goal.loop-parent-init
loop-parent-init c = search (rising_start, rules)

pub overflow_sub-from : goal.overflow_sub-from
overflow_sub-from c = rising_room c.loop-parent.invariant c.args.elements.now.formed.lines c.requires.0 c.entry.ensures c.in-Some.ensures

pub loop-parent-smaller : goal.loop-parent-smaller
loop-parent-smaller c = search (rising_less, rules)

pub loop-parent-preserved : goal.loop-parent-preserved
loop-parent-preserved c = rising_next c.loop-parent.invariant c.args.elements.now.formed.lines c.requires.0 c.entry.ensures c.in-Some.ensures c.entry-in-Some.ensures

pub returns : goal.returns
returns c = rising_done c.loop-parent.invariant c.args.elements.now.formed.lines c.requires.0 c.entry.ensures c.in_default.ensures
