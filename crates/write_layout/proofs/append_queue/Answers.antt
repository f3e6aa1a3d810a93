-- `append_queue` meets its contract: the call words, then targets and listed elements.
use Rattle.write_layout.proofs.Ways.{room_targets}
use Rattle.write_layout.specs.Appending.{appended_on}
use borrow.Author.Rules.{rules}
use Rattle.write_layout.proofs.append_queue.Goals as goal

pub append_two-requires : goal.append_two-requires
append_two-requires c = search (room_targets, rules)

pub returns : goal.returns
returns c = search (appended_on, rules)
