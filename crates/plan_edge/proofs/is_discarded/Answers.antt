-- `is_discarded` meets its contract. The invariant: what is asked is to be told by the change at `at`.
use Rattle.plan_edge.proofs.Stating.{following_start, following_next, following_done, none_around, discards}
use borrow.Author.Rules.{rules}
use Rattle.plan_edge.proofs.is_discarded.Goals as goal

pub loop-init : goal.loop-init
loop-init c = search (following_start, rules)

pub returns-in_default : goal.returns-in_default
returns-in_default c = search (none_around, rules)

pub returns-then-field : goal.returns-then-field
returns-then-field c = discards _ _ _ _ c.loop.invariant (search rules) _ c.word_or_zero.ensures.0 (search rules) (search rules) _ c.field.ensures.0 c.if-field.true

pub loop-preserved : goal.loop-preserved
loop-preserved c = following_next _ _ _ _ c.loop.invariant (search rules) _ c.word_or_zero.ensures.0 (search rules) (search rules) _ c.field.ensures.0 c.if-field.false c.word_or_zero.ensures.1

pub returns : goal.returns
returns c = search (following_done, rules)
