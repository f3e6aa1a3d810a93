-- `splice_words` meets its contract: the tail moved and the new words copied in make the splice.
use Prim.Native.Nat.{ℕ, ◌+◌, ◌-◌, ◌≤◌}
use mathlib.Core.Path.{◌≡◌, ◌∙◌}
use mathlib.Core.List.{List, ◌++◌}
use borrow.Author.Rules.{rules}
use lib.ListN.{length, take, drop}
use lib.Seq.{paste}
use Rattle.words.specs.Parts.{spliced, splice_made}
use Rattle.words.proofs.splice_words.Goals as goal

done : (d new w e : List ℕ) (n a b : ℕ) → (a ≤ b) × (b ≤ n) × (n ≤ length d) × (a + length new + (n - b) ≤ length d) → w ≡ paste d (a + length new) (drop b d) (n - b) → e ≡ paste w a new (length new)
    → e ≡ spliced a b new (take n d) ++ drop (a + length new + (n - b)) d
done d new w e n a b h p q = q ∙ rw p (splice_made d new n a b h.0 h.1 h.2 h.3)

pub returns : goal.returns
returns c = search (done, rules)
