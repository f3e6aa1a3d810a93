-- The account of batches that are written out, by computation: Note 13's condition holds, and each half of it is missing once.
-- Assumes nothing.
use Rattle.std.specs.Prelude.{◌≡◌, refl, Bool, true, false, List, [], ◌∷◌, map, ℕ, drop}
use Rattle.orders.specs.Lists.{any}
use Rattle.orders.specs.Lists
use Rattle.orders.specs.Splices.{Splice}
use Rattle.orders.proofs.Check.{enters?}
use Rattle.orders.proofs.Check
use Rattle.definition.specs.Basics.{Answer, gives, ◌>>=◌, is_some, numbered}
use Rattle.definition.specs.Choices.{by_default}
use Rattle.definition.specs.Elements.{row}
use Rattle.definition.specs.Refusals.{Call, accepted}
use Rattle.definition.specs.Finishing.{new_table}
use Rattle.definition.specs.Answers.{plan, performed, ran}
use Rattle.definition.specs.Performed.{splices}
use Rattle.definition.specs.Computing.{computed}
use Rattle.definition.specs.Examples.{Told, in_lists, in_bytes, node_of, token_of, call}
use Rattle.definition_demand.specs.Aims.{replaces_root}
use Rattle.definition_account.specs.Words.{went_to, count, changed_in, changed_over, old_elements, is?, old_at, dependent_in0, keeps_root, no_dependent_in0}

-- calls on root(X(a), Y(Z(b))) beside trees W(c) and R(V(d)), X mapped to an element: X is 1, a 2, Y 3, Z 4, b 5; W is 6, c 7; R 8, V 9, d 10
abbrev on_xy : ℕ → List Call → Told
on_xy x calls = record {
  trees = node_of 1 (node_of 2 (token_of 3 "a" ∷ []) ∷ node_of 4 (node_of 2 (token_of 3 "b" ∷ []) ∷ []) ∷ []) ∷ node_of 5 (token_of 3 "c" ∷ []) ∷ node_of 4 (node_of 2 (token_of 3 "d" ∷ []) ∷ []) ∷ [];
  calls = calls;
  mappings = (1, x) ∷ [];
  notes = [];
}

-- X by R, c after a: the dependent ends in R's own tree, and Z is deleted
abbrev dependent_in_r : Told
dependent_in_r = on_xy 9 (call 2 1 (8 ∷ []) ∷ call 1 2 (7 ∷ []) ∷ call 3 4 [] ∷ [])

-- X by Y, which stands in tree 0, and c after a: the dependent ends in tree 0
abbrev dependent_in_y : Told
dependent_in_y = on_xy 4 (call 2 1 (3 ∷ []) ∷ call 1 2 (7 ∷ []) ∷ [])

-- the root by W
abbrev root_replaced : Told
root_replaced = on_xy 9 (call 2 0 (6 ∷ []) ∷ [])

-- the two halves of the condition; for each element of the new tree, how many changed elements it lies at or below, and how many old elements went there;
-- for each old element, whether it went anywhere, and whether it is at or below a child deleted in tree 0
abbrev Shown : Type 0
Shown = (Bool × Bool) × List (ℕ × ℕ) × List (Bool × Bool)

unfoldable pub shown : List ℕ → Answer Shown
shown bytes = do
  a ← accepted bytes
  p ← plan by_default a
  w ← ran a p
  let ps = performed a p
  let S : List (Splice ℕ) = splices a p
  gives (
    (keeps_root a.table ps, no_dependent_in0 a.table ps),
    map (λ m. (changed_over w m.0, old_at a.table w m.0)) (numbered 0 (new_table w)),
    map (λ x. (is_some (went_to w x), any (λ s. enters? s.parent s.from s.to (drop 1 (row a.table x).path)) S)) (old_elements a.table),
  )

-- Where the condition holds, each element is one or the other, and just the deleted ones went nowhere. Without the second half, an element is neither (the last one); without the first, old elements went nowhere and no child was deleted.
pub shows : (shown (in_bytes dependent_in_r) ≡ gives ((true, true), (0, 1) ∷ (1, 0) ∷ (1, 0) ∷ (1, 0) ∷ (1, 0) ∷ (0, 1) ∷ [], (true, false) ∷ (false, true) ∷ (false, true) ∷ (true, false) ∷ (false, true) ∷ (false, true) ∷ []))
    × (shown (in_bytes dependent_in_y) ≡ gives ((true, false), (0, 1) ∷ (1, 0) ∷ (1, 0) ∷ (1, 0) ∷ (1, 0) ∷ (0, 1) ∷ (0, 1) ∷ (0, 1) ∷ (0, 0) ∷ [], (true, false) ∷ (false, true) ∷ (false, true) ∷ (true, false) ∷ (true, false) ∷ (true, false) ∷ []))
    × (shown (in_bytes root_replaced) ≡ gives ((false, true), (1, 0) ∷ (1, 0) ∷ [], (false, false) ∷ (false, false) ∷ (false, false) ∷ (false, false) ∷ (false, false) ∷ (false, false) ∷ []))
unfolding computed in_lists in_bytes shown replaces_root Lists.total Check.enters? went_to count changed_in changed_over old_elements is? old_at dependent_in0 keeps_root no_dependent_in0
shows = (refl, refl, refl)
