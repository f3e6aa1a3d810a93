-- `all_below` meets its contract: all are below the limit just if none is not.
use borrow.Author.Rules.{rules}
use Rattle.write_layout.proofs.Tests.{all_told}
use Rattle.write_layout.proofs.all_below.Goals as goal

pub returns : goal.returns
returns c = all_told c.args.limit c.args.s.now c.all.result (search rules)
