-- `element_notes` meets its contract: by its mark, or at first.
use borrow.Author.Rules.{rules}
use Rattle.run_tree_store.proofs.Turns.{row_low}
use Rattle.run_prepare.proofs.Turns.{notes_first, notes_now}
use Rattle.run_prepare.proofs.element_notes.Goals as goal

pub returns-in_default : goal.returns-in_default
returns-in_default c = notes_first c.row_of.ensures c.in_default.is c.notes_in.ensures

pub notes_in-requires-2 : goal.notes_in-requires-2
notes_in-requires-2 c =
    let s = c.args.stores.now in
    let h = row_low _ _ _ _ s.trees.placed c.requires.0 c.row_of.ensures c.in-Some.is in
    let f = s.few_rows in
    let g = s.few_notes in
    search rules

pub returns : goal.returns
returns c = notes_now c.row_of.ensures c.in-Some.is c.notes_in-2.ensures
