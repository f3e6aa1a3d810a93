-- `finish` meets its contract: the new tree with its starts and its text's length, and the rest.
use Rattle.finish_result.proofs.Stages.{may_scan, finish_answered}
use Rattle.finish_result.proofs.finish.Goals as goal

pub scan_tree-extent-requires : goal.scan_tree-extent-requires
scan_tree-extent-requires c = let left = c.args.left.now in may_scan _ _ left.rows.long left.rows.few left.some c.between-trees.ensures _ c.requires.rows_in_bounds left.light

pub returns : goal.returns
returns c =
    let left = c.args.left.now in
    finish_answered _ _ left.rows.long left.rows.few left.some c.between-trees.ensures _ c.args.starts.now _ _ _ _ c.requires.rows_in_bounds c.scan_tree-extent.ensures c.finish_tree.ensures
