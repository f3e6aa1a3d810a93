-- `write_calls` meets its contract: the calls, the mapping and the notes are those of the load.
use Rattle.load_batch.proofs.Ways.{calls_written}
use Rattle.load_batch.proofs.write_calls.Goals as goal

pub returns-clause-writes : goal.returns-clause-writes
returns-clause-writes c =
    calls_written _ _ _ _ _ _ _ _ _ _ _ _ _ _ _ _ _ _ _ c.draw_calls-calls.ensures c.drawn.ensures c.replaced_block.ensures c.fill_notes.ensures c.write_batch.ensures.writes
