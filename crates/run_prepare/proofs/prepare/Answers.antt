-- `prepare` meets its contract. At the loop's head what the elements so far yield has come in.
use native.Mathlib.Omega.{arith}
use lib.Seq.{length-take-le}
use borrow.Author.Rules.{rules}
use Rattle.run_prepare.proofs.Turns.{listed_low, preparing_start, prepared_done, prepared_over, prepared_next, element_rises, element_low}
use Rattle.run_prepare.proofs.prepare.Goals as goal

pub loop-i-init : goal.loop-i-init
loop-i-init c = search (preparing_start, rules)

pub prepare_element-requires : goal.prepare_element-requires
prepare_element-requires c =
    let p = c.requires in
    let v = c.loop-i.invariant in
    let l = length-take-le _ c.args.sizes.now p.room.2 in
    record { e_in_bounds = (listed_low _ _ _ _ _ (omega (arith, l)) p.all c.read_word-e.ensures, p.room.0); room = (v.few_rows, omega arith, v.few_notes, omega arith) }

pub returns-in_err-next : goal.returns-in_err-next
returns-in_err-next c =
    let l = length-take-le _ c.args.sizes.now c.requires.room.2 in
    prepared_over c.loop-i.invariant c.read_word-e.ensures c.prepare_element.ensures (omega (arith, l)) c.in_err-next.was c.from_residual.ensures

pub overflow_sub-size : goal.overflow_sub-size
overflow_sub-size c = search (element_rises, rules)

pub overflow_cast-size : goal.overflow_cast-size
overflow_cast-size c = omega (arith, element_low c.prepare_element.ensures c.in_ok-next.was)

pub loop-i-preserved : goal.loop-i-preserved
loop-i-preserved c =
    let l = length-take-le _ c.args.sizes.now c.requires.room.2 in
    prepared_next c.loop-i.invariant c.read_word-e.ensures c.prepare_element.ensures (omega (arith, l)) c.in_ok-next.was (omega (arith, l)) c.prepare_element.auto.prepared c.prepare_element.auto.incoming

pub returns : goal.returns
returns c =
    let l = length-take-le _ c.args.sizes.now c.requires.room.2 in
    prepared_done c.loop-i.invariant _ (omega (arith, l)) (omega (arith, l))
