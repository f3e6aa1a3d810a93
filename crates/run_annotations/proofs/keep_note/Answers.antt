-- `keep_note` meets its contract.
use Rattle.run_annotations.proofs.Turns.{kept_note}
use borrow.Author.Rules.{rules}
use Rattle.run_annotations.proofs.keep_note.Goals as goal

pub returns : goal.returns
returns c = search (kept_note, rules)
