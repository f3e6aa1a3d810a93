-- `write_again` meets its contract: the sizes that are read are words.
use native.Mathlib.Omega.{arith}
use Rattle.write_again.specs.Counted.{worded}
use Rattle.write_again.proofs.write_again.Goals as goal

pub byte_count-requires : goal.byte_count-requires
byte_count-requires c = worded _ c.args.b.now (λ i. omega (arith, c.type_inv.b i)) c.read_sizes-z.ensures
