-- `notes_left` meets its contract: the library keeps as many places as notes stay.
use Prim.Native.Nat.{◌/◌}
use native.Mathlib.Omega.{arith}
use lib.ListN.{length}
use Rattle.std.proofs.Common.{rules, tests}
use Rattle.std.proofs.lemmas.Iterator.{YieldsList-from_range}
use Rattle.std.proofs.lemmas.Iterator.Consumers.{YieldsList-from_filter, count_from_yields_List}
use Rattle.run_splice.proofs.Turns.{stays_at, notes_counted}
use Rattle.run_splice.proofs.notes_left.Goals as goal

pub returns : goal.returns
returns c =
    let l = c.args.notes.now in
    let o = c.requires.1 in
    notes_counted l c.args.p c.args.q o
    (count_from_yields_List c.filter.result _ c.count.ensures.ran (YieldsList-from_filter _ (stays_at l c.args.p c.args.q o) (YieldsList-from_range 0 (length l / 3) (length l / 3) (search rules) (omega arith)) c.filter.ensures.closure (λ x b q k. search (rules, tests))))
