-- `digit_of` meets its contract. One law for each answer.
use native.Mathlib.Omega.{arith}
use mathlib.Core.Logic.{◌⊎◌, inl, inr}
use mathlib.Core.Path.{◌≡◌, ◌∙◌}
use mathlib.Core.List.{List}
use Prim.Native.Nat.{ℕ, ◌<◌}
use lib.ListN.{get_or}
use Rattle.definition.specs.Choices.{no_choice, digit}
use Rattle.program_choices.specs.Digits.{digit_long, digit_low, digit_high, digit_value}
use Rattle.program_choices.proofs.digit_of.Goals as goal

-- a byte that is no digit
other : (a : List ℕ) → (get_or a 0 0 < 48) ⊎ (57 < get_or a 0 0) → no_choice ≡ digit a
other a (inl l) = digit_low a l
other a (inr l) = digit_high a l

pub returns-in-len1 : goal.returns-in-len1
returns-in-len1 c =
    let d = rw c.if-is_ascii_digit.true at c.is_ascii_digit.ensures.cases in
    c.from.ensures ∙ digit_value _ (omega arith) d.0 d.1

pub returns-in_default : goal.returns-in_default
returns-in_default c = digit_long _ (λ e. omega arith)

pub returns-in_default-2 : goal.returns-in_default-2
returns-in_default-2 c = other _ (rw c.if-is_ascii_digit.false at c.is_ascii_digit.ensures.cases)

pub returns-in_default-3 : goal.returns-in_default-3
returns-in_default-3 c = digit_long _ (λ e. omega arith)
