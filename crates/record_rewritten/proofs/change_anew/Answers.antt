-- `change_anew` meets its contract. Three words tell the change beside its ends.
use borrow.Author.Rules.{rules}
use Rattle.record_rewritten.proofs.Writing.{change_read}
use Rattle.record_rewritten.proofs.change_anew.Goals as goal

pub returns : goal.returns
returns c = λ n few hx hy. search (change_read, rules)
