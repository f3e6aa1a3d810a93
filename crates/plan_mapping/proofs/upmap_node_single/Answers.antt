-- `upmap_node_single` meets its contract. A word 0 maps to nothing.
use Rattle.plan_mapping.proofs.Climbing.{mapped_or_same}
use Rattle.plan_mapping.proofs.upmap_node_single.Goals as goal

pub returns : goal.returns
returns c = mapped_or_same _ _ _ _ c.requires.mapped c.requires.e_lt_n c.word.ensures.0 _ c.checked_sub.ensures _ c.unwrap_or.ensures
