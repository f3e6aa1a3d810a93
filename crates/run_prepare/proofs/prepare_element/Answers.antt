-- `prepare_element` meets its contract: no room for its rows, none for its notes, or both came in.
use borrow.Author.Rules.{rules}
use Rattle.run_prepare.proofs.Turns.{run_whole, run_fits, element_long, element_full, element_came}
use Rattle.run_prepare.proofs.prepare_element.Goals as goal

pub returns-then-held-size : goal.returns-then-held-size
returns-then-held-size c = search (element_long, rules)

pub append_rows-end-requires : goal.append_rows-end-requires
append_rows-end-requires c = search (run_whole, run_fits, rules)

pub returns-in_err-count : goal.returns-in_err-count
returns-in_err-count c = let p = c.requires in search (element_full, rules)

pub returns : goal.returns
returns c = let p = c.requires in search (element_came, rules)
