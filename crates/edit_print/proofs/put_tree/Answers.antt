-- `put_tree` meets its contract.
use borrow.Author.Rules.{rules}
use Rattle.edit_print.proofs.Turns.{tree_room, tree_put}
use Rattle.edit_print.proofs.put_tree.Goals as goal

pub put_text-requires : goal.put_text-requires
put_text-requires c = search (tree_room, rules)

pub returns : goal.returns
returns c = search (tree_put, rules)
