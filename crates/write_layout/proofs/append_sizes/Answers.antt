-- `append_sizes` meets its contract: its seven words are the sizes.
use Rattle.write_layout.proofs.Ways.{sizes_appended}
use Rattle.write_layout.proofs.append_sizes.Goals as goal

pub returns : goal.returns
returns c = sizes_appended _ _ c.sizes-s.ensures c.append_words.ensures
