-- `copy_stretch` meets its contract.
use borrow.Author.Rules.{rules}
use Rattle.finish_arrays.specs.Stretches.{stretch_copied}
use Rattle.finish_arrays.proofs.copy_stretch.Goals as goal

pub returns : goal.returns
returns c = search (stretch_copied, rules)
