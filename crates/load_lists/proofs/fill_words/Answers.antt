-- `fill_words` meets its contract: the first i places are filled, whatever the items are.
use borrow.Author.Rules.{rules}
use Rattle.load_lists.specs.Turns.{along_first, along_turn, along_last}
use Rattle.load_lists.proofs.fill_words.Goals as goal

pub loop-i-init : goal.loop-i-init
loop-i-init g c = λ f e. along_first f _

pub loop-i-preserved : goal.loop-i-preserved
loop-i-preserved g c = λ f e. along_turn f _ _ _ _ (c.loop-i.invariant f e) (search rules) (e c.loop-i.i c.item.result (search rules) c.item.ensures)

pub returns : goal.returns
returns g c = λ f e. along_last f _ _ _ (c.loop-i.invariant f e) (search rules)
