-- `fill_trees` meets its contract: kinds, measures and bytes are those of their places.
use borrow.Author.Rules.{rules}
use Rattle.load_laws.specs.Load.{kind_at, measure_at}
use Rattle.load_lists.specs.Filled.{trees_filled}
use Rattle.load_lists.proofs.fill_trees.Goals as goal

pub returns : goal.returns
returns c =
    let kinds = c.fill_words.ensures kind_at (λ i x h e. search rules) in
    let measures = c.fill_words-2.ensures measure_at (λ i x h e. search rules) in
    search (trees_filled, rules)
