-- `numbered` meets its contract: by draw 1, or by two draws.
use Rattle.load_lists.proofs.Ways.{draw_low, numbered_first, numbered_later}
use borrow.Author.Rules.{rules}
use Rattle.load_lists.proofs.numbered.Goals as goal

pub first_call-requires : goal.first_call-requires
first_call-requires c = (search rules, search (draw_low, rules))

pub returns-then-i-lt3 : goal.returns-then-i-lt3
returns-then-i-lt3 c = search (numbered_first, rules)

pub call_at-requires : goal.call_at-requires
call_at-requires c = (search rules, search (draw_low, rules))

pub returns : goal.returns
returns c = search (numbered_later, rules)
