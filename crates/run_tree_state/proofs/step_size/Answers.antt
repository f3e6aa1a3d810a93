-- `step_size` meets its contract.
use native.Mathlib.Omega.{arith}
use mathlib.Core.List.{[]}
use Prim.Native.Nat.{◌≤◌}
use borrow.Author.Rules.{rules}
use Rattle.run_tree_state.proofs.Sizing.{bytes_enough, height_some, size_deep, size_fits, size_large}
use Rattle.run_tree_state.proofs.step_size.Goals as goal

pub overflow_sub-bytes : goal.overflow_sub-bytes
overflow_sub-bytes c = let e : c.bytes_between-lost.result ≤ c.args.s.bytes = bytes_enough c.bytes_between-lost.ensures c.requires.bytes_bound.1 in omega arith

pub overflow_add-depth : goal.overflow_add-depth
overflow_add-depth c = let e = height_some c.height.ensures c.in_ok-depth.was [] in omega (arith, e.1, c.args.site.now.shallow)

pub returns-in_err-depth : goal.returns-in_err-depth
returns-in_err-depth c = size_deep _ _ _ _ _ _ _ c.height.ensures c.in_err-depth.was c.from_residual.ensures

pub returns-then-too_large : goal.returns-then-too_large
returns-then-too_large c = search (size_large, rules)

pub returns : goal.returns
returns c = search (size_fits, rules)
