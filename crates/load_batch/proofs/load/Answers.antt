-- `load` meets its contract: the trees are those of the load.
use Rattle.load_batch.proofs.Ways.{trees_written}
use Rattle.load_batch.proofs.load.Goals as goal

pub returns-clause-loads : goal.returns-clause-loads
returns-clause-loads c = trees_written _ _ _ _ _ _ _ _ _ c.fill_trees.ensures c.write_calls.ensures.writes
