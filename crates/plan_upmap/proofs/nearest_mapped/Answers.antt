-- `nearest_mapped` meets its contract. At the loop's head the rest of the way up stands before it.
use borrow.Author.Rules.{rules}
use Rattle.plan_upmap.proofs.Notes.{rising_start, rising_found, rising_none, rising_next}
use Rattle.plan_mapping.proofs.Told.{names_none, names_some}
use Rattle.plan_mapping.proofs.Climbing.{parent_before}
use Rattle.plan_upmap.proofs.nearest_mapped.Goals as goal

pub loop-at-init : goal.loop-at-init
loop-at-init c = search (rising_start, rules)

pub returns-in_err-at : goal.returns-in_err-at
returns-in_err-at c = rw c.from_residual.ensures (rising_none _ _ _ _ _ _ c.args.mapping.now.elements.formed.lines c.loop-at.invariant c.word.ensures.0 c.loop-at-test.true _ c.entry.ensures.0 (names_none c.checked_sub.ensures c.in_err-at.was))

pub loop-at-smaller : goal.loop-at-smaller
loop-at-smaller c = let p = names_some c.checked_sub.ensures c.in_ok-at.was in rw p.0 (parent_before _ _ _ _ c.args.mapping.now.elements.formed.lines c.loop-at.invariant.here c.entry.ensures.0 p.1)

pub loop-at-preserved : goal.loop-at-preserved
loop-at-preserved c = let p = names_some c.checked_sub.ensures c.in_ok-at.was in rw p.0 (rising_next _ _ _ _ _ _ c.args.mapping.now.elements.formed.lines c.loop-at.invariant c.word.ensures.0 c.loop-at-test.true _ c.entry.ensures.0 p.1)

pub returns : goal.returns
returns c = search (rising_found, rules)
