-- `wrong_numbers` meets its contract.
use mathlib.Core.Path.{ap, ◌∙◌}
use mathlib.Core.Bool.{not}
use mathlib.Core.List.{List}
use Prim.Native.Nat.{ℕ}
use Rattle.check_laws.specs.Check.{no_repeat}
use Rattle.series_check.specs.Judged.{wrong_many, wrong_twice}
use Rattle.series_check.proofs.wrong_numbers.Goals as goal

pub returns-then-k-gt-MOST_BOOKMARKS : goal.returns-then-k-gt-MOST_BOOKMARKS
returns-then-k-gt-MOST_BOOKMARKS c = wrong_many _ _ c.if-k-gt-MOST_BOOKMARKS.true

pub returns : goal.returns
returns c = wrong_twice _ _ c.if-k-gt-MOST_BOOKMARKS.false (c.repeats.ensures ∙ ap (λ (l : List ℕ). not (no_repeat l)) c.gather_numbers.ensures)
