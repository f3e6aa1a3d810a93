-- `above` meets its contract. A root names no parent; every element has a depth.
use Rattle.std.proofs.Common.{arith}
use Rattle.read_element_table.specs.Told.{deep}
use Rattle.record_changes.proofs.Changing.{above_root, above_child}
use borrow.Author.Rules.{rules}
use Rattle.record_changes.proofs.above.Goals as goal

pub returns-then-is_root : goal.returns-then-is_root
returns-then-is_root c = (search (above_root, rules), search rules)

pub returns : goal.returns
returns c = (search (above_child, rules), search rules)

pub overflow_sub-result : goal.overflow_sub-result
overflow_sub-result c = omega (arith, c.entry-depth.ensures, deep _ _ c.args.elements.now.formed.lines c.args.x c.requires)
