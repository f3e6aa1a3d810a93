-- `row_at` meets its contract. The steps passed lead to the row at hand.
use borrow.Author.Rules.{rules}
use Rattle.rows_children.proofs.Turns.{walking_start, walking_out, walking_none, walking_next, walking_done}
use Rattle.rows_children.proofs.row_at.Goals as goal
use Rattle.rows_children.proofs.row_at.Goals.{
  then-rows-at-via-then-rows-at,
  then-rows-at-via-else-rows-at+then-child_count-i,
}

pub loop-step-init : goal.loop-step-init
loop-step-init c = search (walking_start, rules)

pub returns-then-rows-at : goal.returns-then-rows-at
returns-then-rows-at c =
    elim c.then-rows-at.branch [
      | then-rows-at-via-then-rows-at w ↦ walking_out c.loop-step.invariant (search rules) w.if-rows-at.true
      | then-rows-at-via-else-rows-at+then-child_count-i w ↦ walking_none c.loop-step.invariant (search rules) c.loop-step-test.true (search rules) w.if-rows-at.false w.child_count.ensures w.if-child_count-i.true
    ]

pub loop-step-preserved : goal.loop-step-preserved
loop-step-preserved c = walking_next c.loop-step.invariant (search rules) c.loop-step-test.true (search rules) c.if-rows-at.false c.child_count.ensures c.if-child_count-i.false c.args.children.now.told (c.child_at-at.ensures).0

pub returns : goal.returns
returns c = search (walking_done, rules)
