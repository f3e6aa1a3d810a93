-- `call_stands` meets its contract. What lies below the number of elements may be asked of the table.
use native.Mathlib.Omega.{arith}
use Prim.Native.Nat.{◌<◌}
use Rattle.read_names.proofs.Calling.{known_operation, first_below}
use Rattle.read_names.proofs.call_stands.Goals as goal

pub call_fits-requires : goal.call_fits-requires
call_fits-requires c =
    let x : c.args.target < c.args.elements.now.count = omega arith in
    (known_operation _ _ _ _ c.word_fits.ensures c.if-not-word_fits.false, x, first_below _ _ _ _ _ x c.all_below.ensures c.if-not-all_below.false c.first_listed-first.ensures)
