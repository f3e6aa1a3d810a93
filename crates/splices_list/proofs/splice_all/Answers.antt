-- `splice_all` meets its contract.
use borrow.Author.Rules.{rules}
use Rattle.std.proofs.lemmas.Result.{err_from_is_err_and}
use Rattle.splices_list.proofs.Turns.{good, spliced_done, spliced_refused}
use Rattle.splices_list.proofs.splice_all.Goals as goal

pub returns-in_err-judged : goal.returns-in_err-judged
returns-in_err-judged c =
    let p = err_from_is_err_and c.from_residual.result c.from_residual.ensures.1 in
    rw (p.1, p.2) (spliced_refused _ _ _ _ _ c.judged.ensures c.in_err-judged.was)

pub invariant_of-each : goal.invariant_of-each
invariant_of-each c = let w = good _ _ _ _ _ c.judged.ensures c.in_ok-judged.was in search rules

pub invariant_of-list : goal.invariant_of-list
invariant_of-list c = let w = good _ _ _ _ _ c.judged.ensures c.in_ok-judged.was in search rules

pub splice_tidy-requires : goal.splice_tidy-requires
splice_tidy-requires c = good _ _ _ _ _ c.judged.ensures c.in_ok-judged.was

pub returns : goal.returns
returns c = spliced_done _ _ _ _ _ c.judged.ensures c.in_ok-judged.was c.splice_tidy.ensures
