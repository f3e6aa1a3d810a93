-- `run_site` meets its contract: the run's end may be gone.
use borrow.Author.Rules.{rules}
use native.Mathlib.Omega.{arith}
use Rattle.run_tree_store.proofs.Turns.{row_low, run_gone, run_there}
use Rattle.run_tree_store.proofs.run_site.Goals as goal

pub returns-in_err-k : goal.returns-in_err-k
returns-in_err-k c = search (run_gone, rules)

pub gap_run-requires : goal.gap_run-requires
gap_run-requires c = (omega (arith, row_low _ _ _ _ c.args.store.now.placed c.requires.1 c.row_of.ensures c.in_ok-k.was), c.requires.0)

pub returns : goal.returns
returns c = run_there _ _ _ _ _ _ _ _ _ c.row_of.ensures _ c.in_ok-k.was c.gap_run.ensures
