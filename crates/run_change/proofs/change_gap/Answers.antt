-- `change_gap` meets its contract.
use borrow.Author.Rules.{rules}
use Rattle.run_change.proofs.Telling.{ends_low, site_told}
use Rattle.run_change.proofs.change_gap.Goals as goal

pub find_gap-requires : goal.find_gap-requires
find_gap-requires c = let q = ends_low c.args.changes.now c.args.k c.field-operation.ensures c.field-x.ensures c.field-y.ensures c.args.store.now.marks.now c.requires in search rules

pub returns : goal.returns
returns c = search (site_told, rules)
