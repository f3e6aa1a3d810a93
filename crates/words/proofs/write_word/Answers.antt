-- `write_word` meets its contract: the array that it copies is the word's four bytes.
use borrow.Author.Rules.{rules}
use Rattle.definition.specs.Words.{bytes}
use Rattle.words.proofs.write_word.Goals as goal

pub returns : goal.returns
unfolding bytes
returns c = search rules
