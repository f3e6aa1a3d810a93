-- `beyond` meets its contract: the library's test of a list is the definition's.
use mathlib.Core.Path.{◌∙◌}
use lib.Dec.{leb}
use Rattle.std.proofs.Common.{rules, tests}
use Rattle.std.proofs.lemmas.Iterator.{YieldsList-from_slice}
use Rattle.std.proofs.lemmas.Iterator.Search.{any_from_yields_List}
use Rattle.orders.specs.ListLaws.{some_alike}
use Rattle.check_clauses.proofs.beyond.Goals as goal

pub returns : goal.returns
returns c = any_from_yields_List (leb c.args.n) _ _ _ c.any.ensures.ran (YieldsList-from_slice c.args.list.now cc) (λ x b q k. search (rules, tests)) ∙ some_alike _ _
