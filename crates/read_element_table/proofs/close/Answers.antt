-- `close` meets its contract.
use native.Mathlib.Omega.{arith}
use lib.ListN.{length-set}
use Rattle.read_element_table.specs.FillingLaws.{ended_none, ended_some}
use Rattle.read_element_table.proofs.close.Goals as goal

pub bounds-table-e-in-Some : goal.bounds-table-e-in-Some
bounds-table-e-in-Some c = simp length-set (omega arith)

pub returns-in-Some : goal.returns-in-Some
returns-in-Some c = let h = c.in-Some.ensures in rw h.1 (ended_some _ _ _ _ (λ z. omega arith))

pub returns-in_default : goal.returns-in_default
returns-in_default c = ended_none _ _ _ _ (omega (arith, c.in_default.ensures))
