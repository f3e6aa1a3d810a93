-- `given_by` meets its contract. One law for each count of arguments.
use native.Mathlib.Omega.{arith}
use borrow.Author.Rules.{rules}
use Rattle.program_choices.specs.Digits.{none_given, first_given, both_given}
use Rattle.program_choices.proofs.given_by.Goals as goal

pub returns-then-count-lt2 : goal.returns-then-count-lt2
returns-then-count-lt2 c = none_given c.args.count _ _ (omega arith)

pub returns-then-count-lt3 : goal.returns-then-count-lt3
returns-then-count-lt3 c = first_given c.args.count _ _ _ (omega arith) (omega arith) (search rules)

pub returns : goal.returns
returns c = both_given c.args.count _ _ _ _ (omega arith) (search rules) (search rules)
