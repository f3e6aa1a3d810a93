-- `start_of` meets its contract: byte by byte.
-- Assumes nothing.
use Rattle.load_program.specs.Start.{read_none, read_first, read_other, read_large, read_turn_to, read_last, none_over, some_is}
use mathlib.Core.Path.{refl}
use native.Mathlib.Omega.{arith}
use borrow.Author.Rules.{rules}
use Rattle.load_program.proofs.start_of.Goals as goal

pub returns-then-is_empty : goal.returns-then-is_empty
returns-then-is_empty c = search (read_none, rules)

pub loop-byte-init : goal.loop-byte-init
loop-byte-init c = search (read_first, rules)

pub returns-then-not-is_ascii_digit : goal.returns-then-not-is_ascii_digit
returns-then-not-is_ascii_digit c =
    read_other _ _ _ _ c.loop-byte.invariant (search rules) refl (rw c.if-not-is_ascii_digit.true at c.is_ascii_digit.ensures.cases)

pub returns-in_err-checked_mul : goal.returns-in_err-checked_mul
returns-in_err-checked_mul c =
    let d = rw c.if-not-is_ascii_digit.false at c.is_ascii_digit.ensures.cases in
    rw c.from_residual.ensures (read_large _ _ _ _ c.loop-byte.invariant (search rules) refl d.0 d.1 (omega (arith, none_over c.checked_mul.ensures c.in_err-checked_mul.was)))

pub returns-in_err-n : goal.returns-in_err-n
returns-in_err-n c =
    let d = rw c.if-not-is_ascii_digit.false at c.is_ascii_digit.ensures.cases in
    rw c.from_residual-in_err-n.ensures (read_large _ _ _ _ c.loop-byte.invariant (search rules) refl d.0 d.1 (omega (arith, none_over c.checked_add.ensures c.in_err-n.was, some_is c.checked_mul.ensures c.in_ok-checked_mul.was, c.from.ensures)))

pub loop-byte-preserved : goal.loop-byte-preserved
loop-byte-preserved c =
    let d = rw c.if-not-is_ascii_digit.false at c.is_ascii_digit.ensures.cases in
    let s = some_is c.checked_add.ensures c.in_ok-n.was in
    let m = some_is c.checked_mul.ensures c.in_ok-checked_mul.was in
    read_turn_to _ _ _ _ c.loop-byte.invariant (search rules) refl d.0 d.1 (omega (arith, s, m, c.from.ensures)) (omega (arith, s))

pub returns : goal.returns
returns c = search (read_last, rules)
