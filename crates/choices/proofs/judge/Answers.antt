-- `judge` meets its contract.
use native.Mathlib.Omega.{arith}
use Rattle.choices.specs.Meant.{no_such_rule, neither_on_nor_off, rightly_chosen}
use Rattle.choices.proofs.judge.Goals as goal

pub returns-then-c-gt1 : goal.returns-then-c-gt1
returns-then-c-gt1 c = no_such_rule _ (omega arith)

pub returns-then-c-gt1-2 : goal.returns-then-c-gt1-2
returns-then-c-gt1-2 c = neither_on_nor_off _ (omega arith) (omega arith)

pub returns : goal.returns
returns c = rightly_chosen _ (omega arith) (omega arith)
