-- `write_flat` meets its contract.
use Rattle.series_tree.specs.New.{flat_written}
use Rattle.series_tree.proofs.write_flat.Goals as goal

pub returns : goal.returns
returns c = flat_written _ _ _ c.requires.size_value c.requires.size_in_bounds.0 c.write_word.ensures c.write_word-2.ensures c.write_elements-elements.ensures c.write_text.ensures
