-- DEMAND 3, its last sentence, of every call that keeps its promise: what stands in the result slice is the old tree rewritten in one go.
-- Assumes nothing.
use Rattle.std.specs.Prelude.{◌≡◌, List, map, ℕ, ◌+◌, ◌-◌, ◌*◌, take, drop}
use Rattle.std.proofs.Math.ListN.{length}
use Rattle.orders.specs.Tree.{Tree, label, measure, preorder}
use Rattle.orders.specs.Tree as Tree
use Rattle.definition.specs.Words.{word, words}

-- The kind words, measures and text of a tree stand at their places in the bytes: after the six sizes the kind words, then the measures; the text at the end of the n bytes.
-- The first two sizes say how many.
pub record Shown (t : Tree ℕ) (n : ℕ) (holds : List ℕ) : Type 0 where
  pub elements : word holds ≡ length (preorder t)
  pub size : word (drop 4 holds) ≡ length (Tree.text t)
  pub kinds : words (length (preorder t)) (drop 24 holds) ≡ map label (preorder t)
  pub measures : words (length (preorder t)) (drop (24 + 4 * length (preorder t)) holds) ≡ map measure (preorder t)
  pub text : take (length (Tree.text t)) (drop (n - length (Tree.text t)) holds) ≡ Tree.text t
