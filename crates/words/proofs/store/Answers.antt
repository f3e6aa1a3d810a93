-- `store` meets its contract. The numbers passed are written.
use borrow.Author.Rules.{rules}
use Rattle.words.proofs.Turns.{copying_next}
use Rattle.words.proofs.store.Goals as goal

pub loop-i-preserved : goal.loop-i-preserved
loop-i-preserved c = search (copying_next, rules)
