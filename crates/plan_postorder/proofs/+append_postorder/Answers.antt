-- `append_postorder` meets its contract.
use Rattle.plan_postorder.proofs.Visits.{appending_start, appended_to, appended, some_left, left_falls, left_room, below_most, told_low, told_inside, told_fits, place_inside, unvisited_fall, appending_next}
use borrow.Author.Rules.{rules}
use native.Mathlib.Omega.{arith}
use Rattle.plan_postorder.proofs.+append_postorder.Goals as goal

pub loop-k-init : goal.loop-k-init
loop-k-init t c = search (appending_start, rules)

pub overflow_add-k : goal.overflow_add-k
overflow_add-k t c = let h = told_low c.loop-k.invariant c.checked_sub.ensures c.in-Some.is in record { fits = omega (arith, h) }

pub overflow_sub-unvisited-in-Some-2 : goal.overflow_sub-unvisited-in-Some-2
overflow_sub-unvisited-in-Some-2 t c = search (some_left, rules)

pub append_postorder-place-requires : goal.append_postorder-place-requires
append_postorder-place-requires t c = (search (left_falls, rules), (search rules, (search (told_low, rules), omega arith, search (left_room, rules), search (below_most, rules))))

pub overflow_cast-running : goal.overflow_cast-running
overflow_cast-running t c = record { fits = search (told_fits, rules) }

pub bounds-running-place : goal.bounds-running-place
bounds-running-place t c = search (place_inside, rules)

pub overflow_add-end : goal.overflow_add-end
overflow_add-end t c = omega (arith, bounds-running-place t c)

pub word-link-requires-in-Some : goal.word-link-requires-in-Some
word-link-requires-in-Some t c = told_inside c.loop-k.invariant c.checked_sub.ensures c.in-Some.is c.requires.links

pub loop-k-smaller : goal.loop-k-smaller
loop-k-smaller t c = search (unvisited_fall, rules)

pub loop-k-preserved : goal.loop-k-preserved
loop-k-preserved t c = search (appending_next, rules)

pub returns-clause-value : goal.returns-clause-value
returns-clause-value t c = search (appended_to, rules)

pub returns-clause-running_after : goal.returns-clause-running_after
returns-clause-running_after t c = search (appended, rules)
