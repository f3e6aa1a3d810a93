-- `splice_once` meets its contract.
use mathlib.Core.Path.{sym, ◌∙◌}
use borrow.Author.Rules.{rules}
use Rattle.splices_step.proofs.Turns.{unstepped}
use Rattle.splices_step.proofs.splice_once.Goals as goal

pub splice_at-requires : goal.splice_at-requires
splice_at-requires c =
    let t = sym c.takes.ensures ∙ c.if-takes.true in
    record { i_in_bounds = search rules; risen = c.requires.risen; stocked = search rules; gap_at = (search rules, t) }

pub returns : goal.returns
returns c = search (unstepped, rules)
