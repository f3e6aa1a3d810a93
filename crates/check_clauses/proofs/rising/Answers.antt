-- `rising` meets its contract.
use Rattle.check_clauses.proofs.Turns.{rising_none, rising_no, rising_next, rising_end}
use mathlib.Core.Path.{refl}
use borrow.Author.Rules.{rules}
use Rattle.check_clauses.proofs.rising.Goals as goal
use Rattle.check_clauses.proofs.rising.Goals.{then-w-ne0+else-w-last, else-w-ne0}

pub returns-then-w-last : goal.returns-then-w-last
returns-then-w-last c = search (rising_no, rules)

pub loop-w-preserved : goal.loop-w-preserved
loop-w-preserved c = elim c.if-w-ne0.branch [ then-w-ne0+else-w-last w ↦ rising_next _ c.loop-w.invariant c.loop-w-test.true refl w.if-w-ne0.true w.if-w-last.false w.last-is | else-w-ne0 w ↦ rising_none _ c.loop-w.invariant c.loop-w-test.true refl w.if-w-ne0.false w.last-is ]

pub returns : goal.returns
returns c = search (rising_end, rules)
