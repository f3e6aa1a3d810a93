-- `rewrite_row` meets its contract. One law for each answer.
use Rattle.plan_rewrite.proofs.Rows.{owner_named, at_dependent, at_other}
use Rattle.plan_rewrite.proofs.rewrite_row.Goals as goal

pub rewrite_dependent_target-requires : goal.rewrite_dependent_target-requires
rewrite_dependent_target-requires c = let o = owner_named _ _ _ _ _ _ c.requires.fated c.field.ensures.0 c.if-field.true c.field-k.ensures.0 in record { places = (c.requires.fated.few, o.0, c.requires.places); dependent = o.1 }

pub returns-then-field : goal.returns-then-field
returns-then-field c = at_dependent _ _ _ _ _ _ _ _ c.field.ensures.0 _ c.if-field.true c.field-k.ensures.0 _ _ _ c.rewrite_dependent_target.ensures

pub returns : goal.returns
returns c = at_other _ _ _ _ _ _ _ _ c.field.ensures.0 c.if-field.false _ _ c.copy_row.ensures c.requires.places
