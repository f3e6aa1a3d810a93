-- `move_row` meets its contract.
use Rattle.run_annotations.proofs.Turns.{row_room, rule_room, row_gone, row_kept}
use borrow.Author.Rules.{rules}
use Rattle.run_annotations.proofs.move_row.Goals as goal

pub returns-in_default : goal.returns-in_default
returns-in_default c = search (row_gone, rules)

pub changed_word-requires : goal.changed_word-requires
changed_word-requires c = search (row_room, rule_room, rules)

pub returns : goal.returns
returns c = search (row_kept, row_room, rules)
