-- Our own output of batches that are written out, by computation: it is accepted; each half of the condition is missing once, and it is rejected.
-- Assumes nothing.
use Rattle.std.specs.Prelude.{◌≡◌, refl, Bool, true, false, List, [], ◌∷◌, map, ℕ}
use Rattle.orders.specs.Lists
use Rattle.definition.specs.Basics.{Answer, gives, ◌>>=◌}
use Rattle.definition.specs.Choices.{Choices, by_default}
use Rattle.definition.specs.Refusals.{Call}
use Rattle.definition.specs.Computing.{computed}
use Rattle.definition.specs.Examples.{Told, in_lists, in_bytes, node_of, token_of, call}
use Rattle.definition_demand.specs.Aims.{replaces_root}
use Rattle.definition_account.specs.Words.{went_to, dependent_in0, keeps_root, no_dependent_in0}
use Rattle.check_laws.specs.Check
use Rattle.check_laws.specs.Check.{checked}
use Rattle.check_laws.specs.ListLaws.{numbers_of}
use Rattle.check_laws.specs.Claimed.{old_tree, flat_of, own_pairs, own_claims, own_output, plain_run}

-- calls on root(X(a), Y(Z(b))) beside trees W(c) and R(V(d)), X mapped to an element: X is 1, a 2, Y 3, Z 4, b 5; W is 6, c 7; R 8, V 9, d 10
abbrev on_xy : ℕ → List Call → Told
on_xy x calls = record {
  trees = node_of 1 (node_of 2 (token_of 3 "a" ∷ []) ∷ node_of 4 (node_of 2 (token_of 3 "b" ∷ []) ∷ []) ∷ []) ∷ node_of 5 (token_of 3 "c" ∷ []) ∷ node_of 4 (node_of 2 (token_of 3 "d" ∷ []) ∷ []) ∷ [];
  calls = calls;
  mappings = (1, x) ∷ [];
  notes = [];
}

-- the condition, the pairs, the changed elements, and what the checker says
abbrev Shown : Type 0
Shown = Bool × List ℕ × List ℕ × List ℕ × Answer Bool

unfoldable pub shown : Choices → List ℕ → Answer Shown
shown h bytes = do
  plain ← plain_run h bytes
  c ← own_output h bytes
  gives (plain, c.olds, c.news, c.changed, checked c)

-- nothing is done; c after a; X by R with c after a, which ends in R's own tree, and Z deleted: accepted. X by Y, which stands in tree 0, and c after a, which ends
-- there: rejected, for c is neither paired nor changed. The root by W: rejected, for the roots are no pair
pub own_shown : map (λ b. shown by_default (in_bytes b)) (on_xy 9 [] ∷ on_xy 9 (call 1 2 (7 ∷ []) ∷ []) ∷ on_xy 9 (call 2 1 (8 ∷ []) ∷ call 1 2 (7 ∷ []) ∷ call 3 4 [] ∷ []) ∷ on_xy 4 (call 2 1 (3 ∷ []) ∷ call 1 2 (7 ∷ []) ∷ []) ∷ on_xy 9 (call 2 0 (6 ∷ []) ∷ []) ∷ [])
    ≡ gives (true, 0 ∷ 1 ∷ 2 ∷ 3 ∷ 4 ∷ 5 ∷ [], 0 ∷ 1 ∷ 2 ∷ 3 ∷ 4 ∷ 5 ∷ [], [], gives true)
    ∷ gives (true, 0 ∷ 1 ∷ 2 ∷ 3 ∷ 4 ∷ 5 ∷ [], 0 ∷ 1 ∷ 2 ∷ 4 ∷ 5 ∷ 6 ∷ [], 3 ∷ [], gives true)
    ∷ gives (true, 0 ∷ 3 ∷ [], 0 ∷ 5 ∷ [], 1 ∷ [], gives true)
    ∷ gives (false, 0 ∷ 3 ∷ 4 ∷ 5 ∷ [], 0 ∷ 5 ∷ 6 ∷ 7 ∷ [], 1 ∷ [], gives false)
    ∷ gives (false, [], [], 0 ∷ [], gives false)
    ∷ []
unfolding computed in_lists in_bytes shown replaces_root Lists.total went_to dependent_in0 keeps_root no_dependent_in0 numbers_of old_tree flat_of own_pairs own_claims own_output plain_run Check.too_big Check.unequal Check.alone Check.names_none Check.every Check.is_pair Check.same_bytes Check.own_text Check.text_at Check.no_repeat Check.are_pair Check.roots_paired Check.none_twice Check.pairs_alike Check.parents_paired Check.earlier Check.orders_agree Check.is_paired Check.is_covered Check.just_one Check.all_accounted Check.accepts Check.checked
own_shown = refl
