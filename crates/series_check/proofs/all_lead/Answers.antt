-- `all_lead` meets its contract: the library's test of the places is the definition's.
use Prim.Native.Nat.{ℕ, ◌*◌}
use lib.ListN.{take}
use mathlib.Core.Bool.{not}
use Rattle.std.proofs.Common.{arith, rules, tests}
use Rattle.std.proofs.lemmas.Iterator.{YieldsList-from_range}
use Rattle.std.proofs.lemmas.Iterator.Search.{all_from_yields_List}
use Rattle.series_check.specs.Slots.{slot_at}
use Rattle.series_check.specs.Leading.{lost, all_told}
use Rattle.series_check.proofs.all_lead.Goals as goal

pub returns : goal.returns
returns c =
    let m = c.args.bookmarks.now in
    let rows = c.args.children.now.rows in
    all_told (take (3 * rows.count) rows.words.now) m.words.now m.count (λ text t e. all_from_yields_List (λ (j : ℕ). not (lost t (slot_at m.words.now j))) _ _ _ c.all.ensures.ran (YieldsList-from_range 0 m.count m.count (search rules) (omega arith)) (λ x b q k. search (rules, tests)))
