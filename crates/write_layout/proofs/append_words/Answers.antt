-- `append_words` meets its contract: the words are written.
use Rattle.write_layout.proofs.Ways.{words_appended}
use borrow.Author.Rules.{rules}
use Rattle.write_layout.proofs.append_words.Goals as goal

pub returns : goal.returns
returns c = search (words_appended, rules)
