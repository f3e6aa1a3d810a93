-- `same_bytes` meets its contract: the library's comparison is the definition's.
use mathlib.Core.Path.{◌∙◌}
use Rattle.check_clauses.proofs.Turns.{bytes_alike}
use Rattle.check_clauses.proofs.same_bytes.Goals as goal

pub returns : goal.returns
returns c = c.eq.ensures ∙ bytes_alike _ _
