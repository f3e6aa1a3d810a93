-- `copy_in` meets its contract. The elements passed are copied.
use borrow.Author.Rules.{rules}
use Rattle.words.proofs.Turns.{copying_start, copying_more, copying_done}
use Rattle.words.proofs.copy_in.Goals as goal

pub loop-i-init : goal.loop-i-init
loop-i-init g c = search (copying_start, rules)

pub loop-i-preserved : goal.loop-i-preserved
loop-i-preserved g c = search (copying_more, rules)

pub returns : goal.returns
returns g c = search (copying_done, rules)
