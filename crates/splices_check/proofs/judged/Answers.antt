-- `judged` meets its contract.
use mathlib.Core.Path.{sym, ◌∙◌}
use borrow.Author.Rules.{rules}
use Rattle.splices_model.specs.Verdict.{limited_is, room_is}
use Rattle.splices_check.proofs.judged.Goals as goal

pub invariant_of-each : goal.invariant_of-each
invariant_of-each c = let w = limited_is _ _ _ _ (sym c.within.ensures ∙ c.if-not-within.false) in search rules

pub room-requires : goal.room-requires
room-requires c = let w = limited_is _ _ _ _ (sym c.within.ensures ∙ c.if-not-within.false) in search rules

pub invariant_of-old : goal.invariant_of-old
invariant_of-old c =
    let w = room_is _ _ _ _ _ (sym c.within.ensures ∙ c.if-not-within.false) (sym c.room.ensures ∙ c.if-not-room.false) in search rules

pub invariant_of-list : goal.invariant_of-list
invariant_of-list c = let w = limited_is _ _ _ _ (sym c.within.ensures ∙ c.if-not-within.false) in search rules
