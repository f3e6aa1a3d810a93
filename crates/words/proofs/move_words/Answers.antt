-- `move_words` meets its contract: a move to the same place changes nothing.
use mathlib.Core.Path.{◌≡◌, sym}
use mathlib.Core.List.{List}
use Prim.Native.Nat.{ℕ, ◌+◌, ◌≤◌}
use native.Mathlib.Omega.{arith}
use borrow.Author.Rules.{rules}
use lib.ListN.{drop, take-append-drop}
use lib.Seq.{paste, take-add}
use Rattle.words.proofs.move_words.Goals as goal

-- what is written over itself is as it was
unmoved : (d : List ℕ) (from to n : ℕ) → from ≤ to → to ≤ from → d ≡ paste d to (drop from d) n
unmoved d from to n h k =
    let e : from ≡ to = omega arith in
    rw (e, ← take-add to n d) (sym (take-append-drop (to + n) d))

pub returns-else-from-to : goal.returns-else-from-to
returns-else-from-to c = search (unmoved, rules)
