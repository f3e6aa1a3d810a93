-- `upmap_dependent` meets its contract. By the words of both rows.
use Rattle.plan_rewrite.proofs.Owning.{ends_elements, owned_ends}
use Rattle.plan_rewrite.proofs.upmap_dependent.Goals as goal

pub upmap_ends-requires : goal.upmap_ends-requires
upmap_ends-requires c = ends_elements _ _ _ _ _ c.requires.dependent _ _ _ _ _ _ c.field-input.ensures.0 c.field.ensures.0 c.get-output.ensures.0 c.field-operation.ensures.0 c.field-target.ensures.0 c.field-end.ensures.0

pub returns : goal.returns
returns c = owned_ends _ _ _ _ _ c.requires.dependent _ _ _ _ _ _ c.field-input.ensures.0 c.field.ensures.0 c.get-output.ensures.0 c.field-operation.ensures.0 c.field-target.ensures.0 c.field-end.ensures.0 _ _ _ _ c.upmap_ends.ensures
