-- `splice` meets its contract: what is read is computed from what the calls ensure.
use Prim.Native.Nat.{ℕ}
use mathlib.Core.Bool.{true}
use mathlib.Core.List.{List, [], ◌∷◌, ◌++◌}
use mathlib.Core.Path.{◌≡◌, ◌∙◌}
use borrow.Author.Rules.{rules}
use borrow.Author.Tests.{eq-eqb}
use lib.Dec.{eqb}
use lib.ListN.{get_or, take, drop}
use Rattle.words.specs.Parts.{spliced}
use Rattle.try_words.proofs.splice.Goals as goal

read_at : (l : List ℕ) (i r n : ℕ) → l ≡ spliced 1 2 (8 ∷ 9 ∷ []) (take 5 (1 ∷ 2 ∷ 3 ∷ 4 ∷ 5 ∷ 6 ∷ [])) ++ drop 6 (1 ∷ 2 ∷ 3 ∷ 4 ∷ 5 ∷ 6 ∷ []) → r ≡ get_or l i 0 → get_or (1 ∷ 8 ∷ 9 ∷ 3 ∷ 4 ∷ 5 ∷ []) i 0 ≡ n
    → eqb r n ≡ true
unfolding spliced
read_at l i r n p q e = eq-eqb r n (q ∙ rw (p, e))

pub returns-else-moved : goal.returns-else-moved
returns-else-moved c = search (read_at, rules)

pub returns-then-moved : goal.returns-then-moved
returns-then-moved c = search (read_at, rules)
