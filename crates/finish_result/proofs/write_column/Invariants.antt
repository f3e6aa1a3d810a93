use mathlib.Core.Path.{◌≡◌}
use mathlib.Core.List.{List}
use Prim.Native.Nat.{ℕ, ◌<◌}
use lib.ListN.{length, get_or}
use Rattle.words.proofs.Turns.{Writing}
use Rattle.finish_result.proofs.write_column.Given as goal

abbrev pub invariant-loop-i : goal.invariant-loop-i
invariant-loop-i g l = (xs : List ℕ) → length xs ≡ l.n → ((i x : ℕ) → i < l.n → goal.F-post g l.item i x → x ≡ get_or xs i 0) → Writing l.initial.b l.at xs l.b l.i
