-- `child_count` meets its contract.
use Rattle.read_element_table.proofs.Reading.{counted}
use Rattle.read_element_table.proofs.child_count.Goals as goal

pub returns : goal.returns
returns c = counted _ _ _ c.child_count.ensures
