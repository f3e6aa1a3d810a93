-- `put_fate` meets its contract.
use Rattle.account_lines.proofs.Turns.{own_room, own_put, dependent_put, discarded_put}
use borrow.Author.Rules.{rules}
use Rattle.account_lines.proofs.put_fate.Goals as goal

pub put_line-requires : goal.put_line-requires
put_line-requires c = search (own_room, rules)

pub returns-then-fate : goal.returns-then-fate
returns-then-fate c = search (own_put, rules)

pub returns-then-fate-2 : goal.returns-then-fate-2
returns-then-fate-2 c = search (dependent_put, rules)

pub returns : goal.returns
returns c = search (discarded_put, rules)
