-- `splice_tidy` meets its contract.
use borrow.Author.Rules.{rules}
use Rattle.splices_list.proofs.Turns.{tidied_all}
use Rattle.splices_list.proofs.splice_tidy.Goals as goal

pub returns : goal.returns
returns c =
    tidied_all c.rows_to.ensures c.splice_list-n.ensures (search rules) c.tidy.ensures
