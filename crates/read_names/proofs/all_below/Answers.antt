-- `all_below` meets its contract: no word is n or more.
use mathlib.Core.Path.{refl, ◌∙◌}
use Rattle.std.proofs.Common.{arith, rules, tests}
use Rattle.std.proofs.lemmas.Iterator.{YieldsList-from_range}
use Rattle.std.proofs.lemmas.Iterator.Search.{all_from_yields_List}
use Rattle.std.specs.List.{range_with_len}
use lib.Dec.{leb}
use Rattle.read_names.proofs.Passing.{passes, words_pass, below_told}
use Rattle.read_names.proofs.all_below.Goals as goal

pub returns : goal.returns
returns c =
    all_from_yields_List {v = λ x. x} {all = range_with_len 0 c.args.listed.now.count} (passes (leb c.args.n) c.args.listed.now) _ _ _ c.all.ensures.ran (YieldsList-from_range 0 c.args.listed.now.count c.args.listed.now.count refl (omega arith)) (λ x b q k. search (below_told, rules, tests))
    ∙ words_pass (leb c.args.n) c.args.listed.now
