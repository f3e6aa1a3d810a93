-- `mappings_fit` meets its contract: no mapping is wrong.
use mathlib.Core.Path.{refl, ◌∙◌}
use Rattle.std.proofs.Common.{arith, rules, tests}
use Rattle.std.proofs.lemmas.Iterator.{YieldsList-from_range}
use Rattle.std.proofs.lemmas.Iterator.Search.{all_from_yields_List}
use Rattle.std.specs.List.{range_with_len}
use Rattle.definition.specs.Refusals.{wrong_mapping}
use Rattle.read_element_table.specs.Held.{view_of}
use Rattle.read_names.proofs.Passing.{pair_passes, pairs_pass}
use Rattle.read_names.proofs.mappings_fit.Goals as goal

pub returns : goal.returns
returns c =
    all_from_yields_List {v = λ x. x} {all = range_with_len 0 c.args.inputs.now.count} (pair_passes (wrong_mapping (view_of c.args.elements.now)) c.args.inputs.now c.args.outputs.now) _ _ _ c.all.ensures.ran (YieldsList-from_range 0 c.args.inputs.now.count c.args.inputs.now.count refl (omega arith)) (λ x b q k. search (rules, tests))
    ∙ pairs_pass (wrong_mapping (view_of c.args.elements.now)) c.args.inputs.now c.args.outputs.now c.requires
