-- Our own output as claims: the old tree, the new tree, the surviving pairs, the changed elements (document 02, Note 11).
-- Assumes nothing.
use Rattle.std.specs.Prelude.{Bool, ◌&&◌, ℕ, take}
use mathlib.Core.List.{List, map, flat_map}
use Rattle.std.proofs.Math.Option
use Rattle.orders.specs.Lists.{pick}
use Rattle.orders.specs.Tree.{Tree, label, measure, text, preorder}
use Rattle.definition.specs.Basics.{Answer, gives, ◌>>=◌}
use Rattle.definition.specs.Choices.{Choices}
use Rattle.definition.specs.Elements.{table}
use Rattle.definition.specs.Refusals.{Accepted, accepted}
use Rattle.definition.specs.Running.{World}
use Rattle.definition.specs.Finishing.{Result, result}
use Rattle.definition.specs.Answers.{plan, performed, ran}
use Rattle.definition_account.specs.Words.{went_to, keeps_root, no_dependent_in0}
use Rattle.check_laws.specs.Check.{Flat, Claims}
use Rattle.check_laws.specs.ListLaws.{numbers_of}

-- the old tree: tree 0 of the batch's trees (a list of one)
unfoldable pub old_tree : List (Tree ℕ) → List (Tree ℕ)
old_tree ts = take 1 ts

-- a tree as lists
unfoldable pub flat_of : List (Tree ℕ) → Flat
flat_of ts = record { kinds = map label (flat_map preorder ts); measures = map measure (flat_map preorder ts); text = flat_map text ts }

-- "the surviving paths as pairs": each old element that is in the new tree, with its number there
unfoldable pub own_pairs : List (Tree ℕ) → World → List (ℕ × ℕ)
own_pairs ts w = pick (λ x. Option.map (λ n. (x, n)) (went_to w x)) (numbers_of 0 (table 0 0 (old_tree ts)))

-- "Our own output, with the surviving paths as pairs": of a batch, of what its steps leave, and of its result
unfoldable pub own_claims : Accepted → World → Result → Claims
own_claims a w r = record {
  old = flat_of (old_tree a.trees);
  new = record { kinds = r.kinds; measures = r.measures; text = r.text };
  olds = map (λ p. p.0) (own_pairs a.trees w);
  news = map (λ p. p.1) (own_pairs a.trees w);
  changed = r.changed;
}

-- our own output of a batch as claims, or the refusal out of 2 to 12 and 16
unfoldable pub own_output : Choices → List ℕ → Answer Claims
own_output h bytes = do
  a ← accepted bytes
  p ← plan h a
  w ← ran a p
  gives (own_claims a w (result p.changes p.climbs w))

-- "if the root was not replaced and no dependent change ended in tree 0": of a batch that is not refused
unfoldable pub plain_run : Choices → List ℕ → Answer Bool
plain_run h bytes = do
  a ← accepted bytes
  p ← plan h a
  _ ← ran a p
  gives (keeps_root a.table (performed a p) && no_dependent_in0 a.table (performed a p))
