-- `mapping_fits` meets its contract: test by test.
use native.Mathlib.Omega.{arith}
use Rattle.std.proofs.lemmas.Grind.{common_steps}
use Rattle.read_names.proofs.Noting.{input_beyond, output_beyond, mapping_told}
use Rattle.read_names.proofs.mapping_fits.Goals as goal

pub returns-then-is_node-2 : goal.returns-then-is_node-2
returns-then-is_node-2 c = grind (arith, common_steps, input_beyond, output_beyond, mapping_told)

pub returns-else-is_node-2 : goal.returns-else-is_node-2
returns-else-is_node-2 c = grind (arith, common_steps, input_beyond, output_beyond, mapping_told)
