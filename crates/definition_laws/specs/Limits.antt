-- The sizes of an accepted answer are within document 01's limits, and its bytes are as many as the sizes tell: so 13 cannot come with room for the most bytes that a result has.
-- Assumes nothing.
use Rattle.std.specs.Prelude.{◌≡◌}
use Prim.Native.Nat.{ℕ, ◌≤◌}
use Rattle.std.proofs.Math.ListN.{length}
use Rattle.orders.specs.Tree.{text, elements_of, text_of, deepest_of, children}
use Rattle.definition.specs.Running.{World}
use Rattle.definition.specs.Finishing.{Result}

-- how far the current trees are from line 12
pub record Small (w : World) : Type 0 where
  pub elements : elements_of (children w.trees) ≤ 4096
  pub text : length (text_of (children w.trees)) ≤ 16384
  pub notes : length w.notes ≤ 1024
  pub depth : deepest_of (children w.trees) ≤ 64

-- an answer within document 01's limits
pub record Within (r : Result) : Type 0 where
  pub elements : length r.kinds ≤ 4096
  pub measures : length r.measures ≡ length r.kinds
  pub text : length r.text ≤ 16384
  pub changed : length r.changed ≤ 1024
  pub ruled : length r.rules ≡ length r.changed
  pub notes : length r.numbers ≤ 1024
  pub noted : length r.noted ≡ length r.numbers
  pub discarded : r.discarded ≤ 256
  pub climbs : r.climbs ≤ 1048576

-- the most bytes that a result has
abbrev pub most_bytes : ℕ
most_bytes = 65560
