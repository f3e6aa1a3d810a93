-- `divide` meets its contract: an empty text, or another.
use borrow.Author.Rules.{rules}
use Rattle.share_rows.proofs.Ways.{nothing_of, part_of}
use Rattle.share_rows.proofs.divide.Goals as goal

pub returns-then-all-eq0 : goal.returns-then-all-eq0
returns-then-all-eq0 c = search (nothing_of, rules)

pub returns : goal.returns
returns c = search (part_of, rules)
