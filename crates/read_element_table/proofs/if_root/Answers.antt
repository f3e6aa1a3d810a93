-- `if_root` meets its contract.
use borrow.Author.Tests.{eq-eqb, ne_eqb}
use Rattle.read_element_table.proofs.if_root.Goals as goal

pub returns-then-depth-eq1 : goal.returns-then-depth-eq1
returns-then-depth-eq1 c = rw (eq-eqb _ 1 c.if-depth-eq1.true)

pub returns : goal.returns
returns c = rw (ne_eqb _ 1 c.if-depth-eq1.false)
