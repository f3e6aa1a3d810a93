-- `share` meets its contract: the text of tree 0, the texts of what is changed there, and their quotient.
use native.Mathlib.Omega.{arith}
use Rattle.share_rows.proofs.Ways.{shares}
use Rattle.share_rows.proofs.share.Goals as goal

pub text_bytes-all-requires : goal.text_bytes-all-requires
text_bytes-all-requires c = omega (arith, c.first_tree-tree.ensures.short, c.args.left.now.rows.few)

pub changed_texts-requires : goal.changed_texts-requires
changed_texts-requires c = (omega (arith, c.first_tree-tree.ensures.short), c.requires)

pub returns : goal.returns
returns c = shares c.first_tree-tree.ensures.part c.text_bytes-all.ensures c.changed_texts.ensures c.divide.ensures
