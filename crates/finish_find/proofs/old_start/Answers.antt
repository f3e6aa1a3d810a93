-- `old_start` meets its contract: the element's own path leads to it.
use borrow.Author.Rules.{rules}
use Rattle.finish_find.proofs.OldPath.{first_ends, first_short, start_there, start_somewhere}
use Rattle.finish_find.proofs.old_start.Goals as goal

pub slice_bounds-resolve-end : goal.slice_bounds-resolve-end
slice_bounds-resolve-end c = first_ends c.requires.trees_told c.requires.k_in_bounds c.entry-end.ensures

pub resolve-requires : goal.resolve-requires
resolve-requires c = first_short c.requires.trees_told c.requires.k_in_bounds c.entry-end.ensures

pub unwrap-found-requires : goal.unwrap-found-requires
unwrap-found-requires c = search (start_somewhere, rules)

pub returns : goal.returns
returns c = search (start_there, rules)
