-- `judge` meets its contract.
use Rattle.std.proofs.Common.{sym, ◌∙◌, eqb-true}
use borrow.Author.Rules.{rules}
use Rattle.series_check.specs.Judged.{judged_cut, judged_many, judged_long, judged_whole, judged_empty, judged_cut_slots, judged_rest}
use Rattle.series_check.proofs.judge.Goals as goal
use Rattle.series_check.proofs.judge.Goals.{
  then-most-n-via-then-most-n,
  then-most-n-via-else-most-n+then-b-gt16384,
  then-tree-n-via-then-tree-n,
  then-tree-n-via-else-tree-n+then-is_empty,
}

pub returns-then-tree-lt-SIZES : goal.returns-then-tree-lt-SIZES
returns-then-tree-lt-SIZES c = search (judged_cut, rules)

pub returns-then-most-n : goal.returns-then-most-n
returns-then-most-n c =
    elim c.then-most-n.branch [
      | then-most-n-via-then-most-n w ↦ judged_many _ _ _ c.if-tree-lt-SIZES.false c.read_word-n.ensures c.read_word-b.ensures w.if-most-n.true
      | then-most-n-via-else-most-n+then-b-gt16384 w ↦ judged_long _ _ _ c.if-tree-lt-SIZES.false c.read_word-n.ensures c.read_word-b.ensures w.if-most-n.false w.if-b-gt16384.true
    ]

pub returns-then-tree-n : goal.returns-then-tree-n
returns-then-tree-n c =
    elim c.then-tree-n.branch [
      | then-tree-n-via-then-tree-n w ↦ judged_whole _ _ _ c.if-tree-lt-SIZES.false c.read_word-n.ensures c.read_word-b.ensures c.if-most-n.false c.if-b-gt16384.false w.if-tree-n.true
      | then-tree-n-via-else-tree-n+then-is_empty w ↦ judged_empty _ _ _ c.if-tree-lt-SIZES.false c.read_word-n.ensures c.read_word-b.ensures c.if-most-n.false c.if-b-gt16384.false w.if-tree-n.false (eqb-true _ _ (sym w.is_empty.ensures ∙ w.if-is_empty.true))
    ]

pub returns-then-bookmarks-slot_at : goal.returns-then-bookmarks-slot_at
returns-then-bookmarks-slot_at c = search (judged_cut_slots, rules)

pub returns : goal.returns
returns c = search (judged_rest, rules)
