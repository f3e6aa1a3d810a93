-- `read_words` meets its contract. The words passed are read.
use borrow.Author.Rules.{rules}
use Rattle.words.proofs.Turns.{reading_next}
use Rattle.words.proofs.read_words.Goals as goal

pub loop-i-preserved : goal.loop-i-preserved
loop-i-preserved c = search (reading_next, rules)
