-- `moves_left` meets its contract.
use borrow.Author.Rules.{rules}
use Rattle.splices_step.proofs.Turns.{summing_start, summing_other, summing_left, summing_done, inside_one, ordered_one, part_one}
use Rattle.splices_step.proofs.moves_left.Goals as goal
use Rattle.splices_step.proofs.moves_left.Goals.{then-left_of, else-left_of}

pub loop-j-init : goal.loop-j-init
loop-j-init c = search (summing_start, rules)

pub left_of-requires : goal.left_of-requires
left_of-requires c = search (inside_one, rules)

pub trees_of-gained-requires : goal.trees_of-gained-requires
trees_of-gained-requires c = search (inside_one, part_one, rules)

pub deleted-lost-requires : goal.deleted-lost-requires
deleted-lost-requires c = search (inside_one, ordered_one, rules)

pub loop-j-preserved : goal.loop-j-preserved
loop-j-preserved c = elim c.if-left_of.branch [
  | then-left_of w ↦
      rw (w.gained-is, w.lost-is) (summing_left c.loop-j.invariant c.loop-j-test.true c.left_of.ensures w.if-left_of.true w.trees_of-gained.ensures w.deleted-lost.ensures)
  | else-left_of w ↦ rw (w.gained-is, w.lost-is) (summing_other c.loop-j.invariant c.loop-j-test.true c.left_of.ensures w.if-left_of.false)
]

pub returns : goal.returns
returns c = search (summing_done, rules)
