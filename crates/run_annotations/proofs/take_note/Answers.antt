-- `take_note` meets its contract.
use Rattle.run_annotations.proofs.Turns.{taken_before, taken_after, taken_full, taken_inside}
use borrow.Author.Rules.{rules}
use Rattle.run_annotations.proofs.take_note.Goals as goal

pub returns-then-x-p : goal.returns-then-x-p
returns-then-x-p c = search (taken_before, rules)

pub returns-then-q-x : goal.returns-then-q-x
returns-then-q-x c = search (taken_after, rules)

pub returns-then-most-c : goal.returns-then-most-c
returns-then-most-c c = search (taken_full, rules)

pub returns : goal.returns
returns c = search (taken_inside, rules)
