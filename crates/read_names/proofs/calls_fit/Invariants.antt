use Rattle.read_element_table.specs.View.{view}
use Rattle.read_names.proofs.Calling.{Calling}
use Rattle.read_names.proofs.calls_fit.Given as goal

abbrev pub invariant-loop-i : goal.invariant-loop-i
invariant-loop-i l = Calling (view l.elements.count l.elements.table.now l.elements.source.now) l.calls l.targets l.listed l.taken l.i
