-- `fill_rows` meets its contract. The rows of the elements passed are written.
use borrow.Author.Rules.{rules}
use Rattle.series_check.specs.Rows.{filling_start, filling_room, filling_small, filling_next, filling_done}
use Rattle.series_check.proofs.fill_rows.Goals as goal

pub loop-i-init : goal.loop-i-init
loop-i-init c = search (filling_start, rules)

pub store-requires : goal.store-requires
store-requires c = (filling_room c.loop-i.invariant c.loop-i-test.true, (c.get-kind.ensures.kind.1, (c.get-kind.ensures.measure.1, (filling_small c.loop-i.invariant, tt))))

pub loop-i-preserved : goal.loop-i-preserved
loop-i-preserved c = filling_next c.loop-i.invariant c.loop-i-test.true c.get-kind.ensures.kind c.get-kind.ensures.measure c.store.ensures c.length_of-offset.ensures

pub shape_of-rows : goal.shape_of-rows
shape_of-rows c = c.loop-i.invariant.same

pub returns : goal.returns
returns c = search (filling_done, rules)
