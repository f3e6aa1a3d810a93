-- `share_in` meets its contract: case by case; a share is no length and no place.
use Rattle.std.proofs.lemmas.Result.{err_from_is_err_and}
use Rattle.edit_algo.proofs.Ways.{share_refused, share_no_bytes, share_no_place, share_told}
use Rattle.edit_algo.proofs.share_in.Goals as goal

pub returns-in_err-told : goal.returns-in_err-told
returns-in_err-told c =
    let p = err_from_is_err_and c.from_residual.result c.from_residual.ensures.1 in
    rw (p.1, p.2) (share_refused c.in_err-told.was)

pub unreachable-requires : goal.unreachable-requires
unreachable-requires c = share_no_bytes c.in_ok-told.was c.in-Bytes.is c.requires

pub unreachable-requires-in-Place : goal.unreachable-requires-in-Place
unreachable-requires-in-Place c = share_no_place c.in_ok-told.was c.in-Place.is c.requires

pub returns : goal.returns
returns c = share_told c.in_ok-told.was c.in-Of.is
