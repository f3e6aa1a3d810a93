-- `answer_in` meets its contract: case by case; no edit finds an element or tells a share.
use Rattle.std.proofs.lemmas.Result.{err_from_is_err_and}
use Rattle.edit_algo.proofs.Ways.{length_refused, no_place, no_share, length_told}
use Rattle.edit_algo.proofs.answer_in.Goals as goal

pub returns-in_err-n : goal.returns-in_err-n
returns-in_err-n c =
    let p = err_from_is_err_and c.from_residual.result c.from_residual.ensures.1 in
    rw (p.1, p.2) (length_refused c.in_err-n.was)

pub unreachable-requires : goal.unreachable-requires
unreachable-requires c = no_place c.in_ok-n.was c.in-Place.is c.requires

pub unreachable-requires-in-Of : goal.unreachable-requires-in-Of
unreachable-requires-in-Of c = no_share c.in_ok-n.was c.in-Of.is c.requires

pub returns : goal.returns
returns c = length_told c.in_ok-n.was c.in-Bytes.is
