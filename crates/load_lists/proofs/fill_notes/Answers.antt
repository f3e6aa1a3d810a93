-- `fill_notes` meets its contract: the first i notes are in the lists.
use Rattle.load_lists.specs.Turns.{notes_first, notes_turn, notes_last}
use borrow.Author.Rules.{rules}
use Rattle.load_lists.proofs.fill_notes.Goals as goal

pub loop-i-init : goal.loop-i-init
loop-i-init c = search (notes_first, rules)

pub loop-i-preserved : goal.loop-i-preserved
loop-i-preserved c = search (notes_turn, rules)

pub returns : goal.returns
returns c = search (notes_last, rules)
