-- `write_elements` meets its contract: the kinds and the measures of the rows passed are written, and each was read once.
use borrow.Author.Rules.{rules}
use Rattle.finish_arrays.proofs.Turns.{sweeping, sweeping_next, sweeping_done}
use Rattle.finish_arrays.proofs.write_elements.Goals as goal

pub loop-row-init : goal.loop-row-init
loop-row-init c = search (sweeping, rules)

pub loop-row-preserved : goal.loop-row-preserved
loop-row-preserved c = sweeping_next c.loop-row.invariant c.loop-row-test.true (search rules) c.write_element.ensures

pub returns : goal.returns
returns c = search (sweeping_done, rules)
