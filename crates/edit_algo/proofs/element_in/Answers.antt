-- `element_in` meets its contract: case by case; who finds writes no bytes and tells no share.
use Rattle.std.proofs.lemmas.Result.{err_from_is_err_and}
use Rattle.edit_algo.proofs.Ways.{place_refused, no_bytes, no_parts, place_told}
use Rattle.edit_algo.proofs.element_in.Goals as goal

pub returns-in_err-told : goal.returns-in_err-told
returns-in_err-told c =
    let p = err_from_is_err_and c.from_residual.result c.from_residual.ensures.1 in
    rw (p.1, p.2) (place_refused c.in_err-told.was)

pub unreachable-requires : goal.unreachable-requires
unreachable-requires c = no_bytes c.in_ok-told.was c.in-Bytes.is c.requires

pub unreachable-requires-in-Of : goal.unreachable-requires-in-Of
unreachable-requires-in-Of c = no_parts c.in_ok-told.was c.in-Of.is c.requires

pub returns : goal.returns
returns c = place_told c.in_ok-told.was c.in-Place.is
