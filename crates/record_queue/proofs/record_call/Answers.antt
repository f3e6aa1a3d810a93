-- `record_call` meets its contract: a further editor starts, or a change is recorded.
use Rattle.words.specs.List.{length_of}
use Rattle.record_queue.proofs.Recordings.{first_below, call_named, call_numbers, rule_fits, call_editor, call_put}
use Rattle.std.proofs.Common.{sym}
use Rattle.words.specs.List.{length_of}
use borrow.Author.Rules.{rules}
use Rattle.record_queue.proofs.record_call.Goals as goal

pub returns-then-operation-eq-FURTHER_EDITOR : goal.returns-then-operation-eq-FURTHER_EDITOR
returns-then-operation-eq-FURTHER_EDITOR c = search (call_editor, rules)

pub spot_of-s-requires : goal.spot_of-s-requires
spot_of-s-requires c =
    let own = c.args.own.now in
    let fits = c.requires.call_fits.0 in (first_below own fits c.first_listed-first.ensures, call_named own fits c.first_listed-first.ensures _ c.change_of-c.ensures)

pub record_change-count-requires : goal.record_change-count-requires
record_change-count-requires c =
    let pre = c.requires.start_le_count in
    let numbers = call_numbers c.args.own.now c.requires.call_fits.0 c.first_listed-first.ensures _ c.change_of-c.ensures c.args.elements.now.formed c.numbers_of-m.ensures in
    (pre.0, pre.1, pre.2, numbers, c.spot_of-s.ensures.1, rule_fits _ c.rule_of-rule.ensures)

pub returns : goal.returns
returns c =
    call_put _ _ _ _ _ _ _ _ _ _ c.operation_of-operation.ensures _ _ _ _ _ _ _ _ c.if-operation-eq-FURTHER_EDITOR.false c.requires.start_le_count.0 (sym (length_of c.args.own.now)) c.rule_of-rule.ensures c.first_listed-first.ensures c.change_of-c.ensures c.numbers_of-m.ensures c.spot_of-s.ensures.0 c.record_change-count.ensures
