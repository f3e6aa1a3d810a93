-- `bytes_between` meets its contract.
use Rattle.run_tree_state.proofs.Sizing.{bytes_between}
use Rattle.run_tree_state.proofs.bytes_between.Goals as goal

pub returns : goal.returns
returns c = let n = c.args.rows.now in bytes_between _ _ _ _ _ (n.long, n.few, c.requires.0, c.requires.1) c.text_bytes.ensures c.between.ensures
