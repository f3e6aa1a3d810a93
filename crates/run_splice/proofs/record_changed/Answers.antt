-- `record_changed` meets its contract.
use borrow.Author.Rules.{rules}
use Rattle.run_splice.proofs.Turns.{recorded_asks, recorded_all, recorded_none}
use Rattle.run_splice.proofs.record_changed.Goals as goal

pub returns-in_default : goal.returns-in_default
returns-in_default c = search (recorded_none, rules)

pub add_changed-requires : goal.add_changed-requires
add_changed-requires c = let a = recorded_asks c.args.k _ _ c.args.at c.in-Some.is c.requires.room in let b = c.requires.bounded in (a.0, a.1, a.2, b.0, b.1, b.2)

pub returns : goal.returns
returns c = search (recorded_all, rules)
