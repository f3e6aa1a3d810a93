-- `write_words` meets its contract. The words passed are written.
use borrow.Author.Rules.{rules}
use Rattle.words.proofs.Turns.{writing_next}
use Rattle.words.proofs.write_words.Goals as goal

pub loop-i-preserved : goal.loop-i-preserved
loop-i-preserved c = search (writing_next, rules)
