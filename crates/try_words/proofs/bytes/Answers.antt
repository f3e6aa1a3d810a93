-- `bytes` meets its contract: what is read is computed from what the calls ensure.
use Prim.Native.Nat.{ℕ}
use mathlib.Core.Bool.{true}
use mathlib.Core.List.{List, [], ◌∷◌}
use mathlib.Core.Path.{◌≡◌, ◌∙◌}
use borrow.Author.Rules.{rules}
use borrow.Author.Tests.{eq-eqb}
use lib.Dec.{eqb}
use lib.ListN.{drop}
use lib.Seq.{paste}
use Rattle.definition.specs.Words.{word, bytes}
use Rattle.try_words.proofs.bytes.Goals as goal

read_at : (l : List ℕ) (at r n : ℕ) → l ≡ paste (7 ∷ 7 ∷ 7 ∷ 7 ∷ 7 ∷ 7 ∷ []) 1 (bytes 0x8040_2010) 4 → r ≡ word (drop at l) → word (drop at (7 ∷ 0x10 ∷ 0x20 ∷ 0x40 ∷ 0x80 ∷ 7 ∷ [])) ≡ n → eqb r n ≡ true
unfolding bytes
read_at l at r n p q e = eq-eqb r n (q ∙ rw (p, e))

pub returns-else-back : goal.returns-else-back
unfolding word
returns-else-back c = search (read_at, rules)

pub returns-then-back : goal.returns-then-back
unfolding word
returns-then-back c = search (read_at, rules)
