-- `fill` meets its contract.
use Rattle.read_element_table.proofs.Writing.{rows_behind}
use Rattle.read_element_table.proofs.fill.Goals as goal

pub returns-clause-filled : goal.returns-clause-filled
returns-clause-filled c e =
    let f = c.fill_elements in
    record { words = f.ensures.table_after e; rows = rows_behind _ _ _ _ _ _ c.requires.in_bounds.2 c.store.ensures (f.ensures.source_after e) }
