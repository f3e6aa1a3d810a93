-- `element_bytes` meets its contract: the text of its rows.
use Rattle.share_rows.proofs.Ways.{part_short, element_told}
use Rattle.share_rows.proofs.element_bytes.Goals as goal

pub text_bytes-requires : goal.text_bytes-requires
text_bytes-requires c = part_short c.subtree.ensures c.args.left.now.rows.long c.args.left.now.rows.few

pub returns : goal.returns
returns c = element_told c.subtree.ensures c.args.left.now.rows.long c.args.left.now.rows.few c.text_bytes.ensures c.args.left.now.light
