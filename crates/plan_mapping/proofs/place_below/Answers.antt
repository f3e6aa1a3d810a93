-- `place_below` meets its contract. At the loop's head what is left of the place is that of the element where it stands.
use borrow.Author.Rules.{rules}
use Rattle.plan_mapping.proofs.Told.{names_none, names_some}
use Rattle.plan_mapping.proofs.Placing.{placing_start, placing_done, placing_none, placing_room, placing_next}
use Rattle.plan_mapping.proofs.Climbing.{parent_before}
use Rattle.plan_mapping.proofs.place_below.Goals as goal

pub loop-at-init : goal.loop-at-init
loop-at-init c = search (placing_start, rules)

pub returns-in_err-parent : goal.returns-in_err-parent
returns-in_err-parent c = rw c.from_residual.ensures (placing_none _ _ _ _ c.requires.lines c.requires.x_lt_n.1 _ _ _ c.loop-at.invariant c.requires.x_lt_n.0 _ c.entry.ensures.0 c.loop-at-test.true (names_none c.checked_sub.ensures c.in_err-parent.was))

pub bounds-place-k : goal.bounds-place-k
bounds-place-k c = placing_room _ _ _ _ c.requires.lines c.requires.x_lt_n.1 _ _ _ c.loop-at.invariant c.requires.x_lt_n.0 _ c.entry.ensures.0 c.loop-at-test.true (names_some c.checked_sub.ensures c.in_ok-parent.was).1

pub loop-at-smaller : goal.loop-at-smaller
loop-at-smaller c = let p = names_some c.checked_sub.ensures c.in_ok-parent.was in rw p.0 (parent_before _ _ _ _ c.requires.lines c.loop-at.invariant.here c.entry.ensures.0 p.1)

pub loop-at-preserved : goal.loop-at-preserved
loop-at-preserved c = let p = names_some c.checked_sub.ensures c.in_ok-parent.was in rw p.0 (placing_next _ _ _ _ c.requires.lines c.requires.x_lt_n.1 _ _ _ c.loop-at.invariant c.requires.x_lt_n.0 _ c.entry.ensures.0 c.loop-at-test.true p.1)

pub returns : goal.returns
returns c = search (placing_done, rules)
