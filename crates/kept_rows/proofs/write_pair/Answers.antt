-- `write_pair` meets its contract: nothing, or two words.
use borrow.Author.Rules.{rules}
use Rattle.kept_rows.proofs.Ways.{written_none, written_one, room_one, room_again}
use Rattle.kept_rows.proofs.write_pair.Goals as goal

pub returns-in-None : goal.returns-in-None
returns-in-None c = search (written_none, rules)

pub write_word-requires : goal.write_word-requires
write_word-requires c = search (room_one, rules)

pub write_word-requires-in-Some : goal.write_word-requires-in-Some
write_word-requires-in-Some c = search (room_again, rules)

pub returns-in-Some : goal.returns-in-Some
returns-in-Some c = search (written_one, rules)
