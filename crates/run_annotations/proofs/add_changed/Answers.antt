-- `add_changed` meets its contract. The rows of the parts passed are added.
use Rattle.run_annotations.proofs.Turns.{adding_start, adding_small, adding_next, adding_done}
use borrow.Author.Rules.{rules}
use Rattle.run_annotations.proofs.add_changed.Goals as goal

pub loop-i-init : goal.loop-i-init
loop-i-init c = search (adding_start, rules)

pub changed_word-requires : goal.changed_word-requires
changed_word-requires c = search (adding_small, rules)

pub loop-i-preserved : goal.loop-i-preserved
loop-i-preserved c = search (adding_next, rules)

pub returns : goal.returns
returns c = search (adding_done, rules)
