-- One sweep over a tree: what it writes, and that it reads each element once.
-- Assumes nothing.
use Rattle.std.specs.Prelude.{◌≡◌, List, map, ℕ, ◌+◌, ◌*◌, ◌/◌, length}
use Rattle.std.proofs.Common.{sym, ap, ◌∙◌}
use Rattle.std.proofs.Math.Seq.{paste}
use Rattle.orders.specs.Tree.{forest, elements_of}
use Rattle.definition.specs.Words.{written}
use Rattle.definition.specs.Running.{World}
use Rattle.definition.specs.Finishing.{new_tree}
use Rattle.rows_model.specs.Row.{kind, measure, triples, rows_of}
use Rattle.rows_model.proofs.Words.{length_triples}
use Rattle.finish_model.specs.Finished.{first_tree}
use Rattle.finish_model.proofs.Numbers.{tree_elements}

-- the kinds of n elements at `at`, and their measures behind them
unfoldable pub elements_over : ℕ → List ℕ → List ℕ → ℕ → List ℕ → List ℕ
elements_over at kinds measures n d = paste (paste d at (written kinds) (4 * n)) (at + 4 * n) (written measures) (4 * n)

-- Note 4: "It returns how many times it read an element, proved equal to the new tree's count of elements": of any world whose new tree the words tell
pub record Counts (tree : List ℕ) (reads : ℕ) : Type 0 where
  pub rows : reads ≡ length tree / 3
  pub elements : (text : List ℕ) (w : World) → triples text tree ≡ first_tree (rows_of w.trees) → reads ≡ elements_of (forest (new_tree w))

-- Note 4: "one pass over the tree should write kinds and measures"
pub record Swept (tree : List ℕ) (at : ℕ) (d l : List ℕ) (reads : ℕ) : Type 0 where
  pub count : Counts tree reads
  pub arrays : (text : List ℕ) → l ≡ elements_over at (map kind (triples text tree)) (map measure (triples text tree)) (length tree / 3) d

-- as many reads as there are rows
pub row_each : (tree : List ℕ) {reads : ℕ} → reads ≡ length tree / 3 → Counts tree reads
row_each tree e = record { rows = e; elements = λ text w told. e ∙ (sym (length_triples text tree) ∙ (ap length told ∙ tree_elements w)) }
