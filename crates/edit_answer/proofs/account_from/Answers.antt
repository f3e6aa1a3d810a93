-- `account_from` meets its contract: 13, or what is said of each change.
use Rattle.std.proofs.lemmas.List.{take_rest}
use Rattle.finish_result.specs.Cut.{cut_few}
use Rattle.edit_answer.proofs.Ends.{behind_cut, account_refused, account_told}
use Rattle.edit_answer.proofs.account_from.Goals as goal

pub result_size-size-requires : goal.result_size-size-requires
result_size-size-requires c = let v = c.requires.0 in cut_few _ _ _ _ v.notes_within v.changed_within v.few_notes v.few_changed

pub returns-then-size-gt-PROGRAM_ROOM : goal.returns-then-size-gt-PROGRAM_ROOM
returns-then-size-gt-PROGRAM_ROOM c = account_refused c.requires _ _ (take_rest c.args.batch.now c.args.d.text) c.result_size-size.ensures c.if-size-gt-PROGRAM_ROOM.true

pub returns : goal.returns
returns c = account_told c.requires _ _ (take_rest c.args.batch.now c.args.d.text) c.result_size-size.ensures (behind_cut c.args.d.recorded c.args.changes.now) c.if-size-gt-PROGRAM_ROOM.false c.tell_account.ensures
