-- `splice` meets its contract.
use native.Mathlib.Omega.{arith}
use borrow.Author.Rules.{rules}
use Rattle.run_splice.proofs.Turns.{all_small, spliced_marks}
use Rattle.run_splice.proofs.splice.Goals as goal

pub shift_rising-requires : goal.shift_rising-requires
shift_rising-requires c = let p = c.requires in (omega (arith, p.n_in_bounds.2), p.n_in_bounds.3, omega (arith, p.n_in_bounds.1, p.n_in_bounds.4), omega (arith, p.run_len.1), all_small _ _ p.n_in_bounds.1 p.n_in_bounds.5, p.risen)

pub returns : goal.returns
returns c = search (spliced_marks, rules)
