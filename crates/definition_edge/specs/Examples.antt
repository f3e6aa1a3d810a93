-- Both edge rules: where the condition of `apart_by_rule_1` holds, rule 1 answers with the one-go tree, and rule 0 need not; each half of the condition is needed. By computation.
-- Assumes nothing.
use Rattle.std.specs.Prelude.{◌≡◌, refl, Bool, true, false, ℕ, take}
use mathlib.Core.List.{List, [], ◌∷◌, map, flat_map}
use Rattle.orders.specs.Tree.{text}
use Rattle.orders.specs.Splices
use Rattle.orders.proofs.Check
use Rattle.definition.specs.Basics.{Answer, gives, ◌>>=◌}
use Rattle.definition.specs.Refusals.{Call, accepted}
use Rattle.definition.specs.Finishing.{result}
use Rattle.definition.specs.Answers.{plan, performed, ran}
use Rattle.definition.specs.Performed.{splices}
use Rattle.definition.specs.Printed.{ascii}
use Rattle.definition.specs.Computing.{computed}
use Rattle.definition.specs.Examples.{Told, in_lists, in_bytes, node_of, token_of, call}
use Rattle.definition.specs.EdgeExamples.{edge, closing_call}
use Rattle.definition_demand.specs.Aims.{replaces_root}
use Rattle.definition_demand.specs.Answered.{apart_in?}
use Rattle.definition_account.specs.Words.{dependent_in0, keeps_root, no_dependent_in0}

-- ── Batches ─────────────────────────────────────────────────────────────────────────────────────────────────

-- calls on root(P(a, z), b), z an empty node, beside a tree of c, d and e: P is 1, a 2, z 3, b 4; c is 6, d 7, e 8, their root 5
abbrev on_p : List Call → Told
on_p calls = record {
  trees = node_of 1 (node_of 2 (token_of 3 "a" ∷ node_of 4 [] ∷ []) ∷ token_of 3 "b" ∷ []) ∷ node_of 5 (token_of 3 "c" ∷ token_of 3 "d" ∷ token_of 3 "e" ∷ []) ∷ [];
  calls = calls;
  mappings = [];
  notes = [];
}

-- the run from a to z deleted, b by e, c after a: under rule 0 the change of b empties the stack, and c is own
abbrev inside_run : Told
inside_run = on_p (call 5 2 (3 ∷ []) ∷ call 2 4 (8 ∷ []) ∷ call 1 2 (6 ∷ []) ∷ [])

-- the root replaced
abbrev root_replaced : Told
root_replaced = on_p (call 2 0 (5 ∷ []) ∷ [])

-- on root(Q(X'(a)), X(a)), X mapped to X': X by Q, c after the a of X, Q deleted. The dependent change ends in Q, which is deleted. Q is 1, X' 2, X 4, its a 5; c is 7
abbrev dependent_in : Told
dependent_in = record {
  trees = node_of 1 (node_of 6 (node_of 2 (token_of 3 "a" ∷ []) ∷ []) ∷ node_of 2 (token_of 3 "a" ∷ []) ∷ []) ∷ node_of 5 (token_of 6 "c" ∷ []) ∷ [];
  calls = call 2 4 (1 ∷ []) ∷ call 1 5 (7 ∷ []) ∷ call 3 1 [] ∷ [];
  mappings = (4, 2) ∷ [];
  notes = [];
}

-- ── What is told of each ────────────────────────────────────────────────────────────────────────────────────

-- by an edge rule: both halves of the condition, and whether the splices are apart; the new text, and that of tree 0 rewritten in one go
abbrev Compared : Type 0
Compared = Answer ((Bool × Bool × Bool) × List ℕ × List ℕ)

unfoldable pub compared_by : ℕ → Told → Compared
compared_by n b = do
  a ← accepted (in_bytes b)
  p ← plan (edge n) a
  w ← ran a p
  let T = a.table
  let S = splices a p
  gives ((keeps_root T (performed a p), no_dependent_in0 T (performed a p), apart_in? a.trees S), (result p.changes p.climbs w).text, flat_map text (map (Splices.one_go S) (take 1 a.trees)))

pub compares : (compared_by 0 closing_call ≡ gives ((true, true, true), ascii "su", ascii "su"))
    × (compared_by 1 closing_call ≡ gives ((true, true, true), ascii "scu", ascii "scu"))
    × (compared_by 0 inside_run ≡ gives ((true, true, false), ascii "e", ascii "ce"))
    × (compared_by 1 inside_run ≡ gives ((true, true, true), ascii "e", ascii "e"))
    × (compared_by 1 root_replaced ≡ gives ((false, true, true), ascii "cde", ascii "ab"))
    × (compared_by 1 dependent_in ≡ gives ((true, false, false), ascii "ac", ascii "ac"))
unfolding
    computed in_lists in_bytes compared_by replaces_root apart_in? dependent_in0 keeps_root no_dependent_in0
    Check.each Check.pairs Check.enters? Check.run? Check.fits? Check.apart? Check.all_apart?
    Splices.same_path Splices.left_of Splices.under Splices.from_root Splices.from_child Splices.at_root Splices.below Splices.insert_by_left Splices.left_to_right Splices.new_children Splices.one_go Splices.one_go_all
compares = (refl, refl, refl, refl, refl, refl)
