-- Batches whose splices are apart, and one whose are not: by computation.
-- Assumes nothing.
use Rattle.std.specs.Prelude.{◌≡◌, refl, Bool, true, false, ℕ}
use mathlib.Core.List.{List, [], ◌∷◌, ◌++◌, map, flat_map}
use Prim.Native.String.{String}
use Rattle.orders.specs.Tree.{text}
use Rattle.orders.specs.Splices
use Rattle.orders.proofs.Check
use Rattle.definition.specs.Basics.{Answer, gives, ◌>>=◌}
use Rattle.definition.specs.Choices.{Choices}
use Rattle.definition.specs.Refusals.{Call}
use Rattle.definition.specs.Answers.{edit}
use Rattle.definition.specs.Printed.{ascii}
use Rattle.definition.specs.Computing.{computed}
use Rattle.definition.specs.Examples.{Told, in_lists, in_bytes, node_of, token_of, call}
use Rattle.definition.specs.EdgeExamples.{edge, closing_call}
use Rattle.definition_demand.specs.Aims.{replaces_root}
use Rattle.definition_demand.specs.Answered.{apart_in?, apart_plan?, apart_batch?, one_go_of}

-- calls on root(P(a, z), b), z an empty node, beside a tree of c, d and e: P is 1, a 2, z 3, b 4; c is 6, d 7, e 8, their root 5
abbrev on_p : List Call → Told
on_p calls = record {
  trees = node_of 1 (node_of 2 (token_of 3 "a" ∷ node_of 4 [] ∷ []) ∷ token_of 3 "b" ∷ []) ∷ node_of 5 (token_of 3 "c" ∷ token_of 3 "d" ∷ token_of 3 "e" ∷ []) ∷ [];
  calls = calls;
  mappings = [];
  notes = [];
}

-- c after P, d after a, b replaced by e: the splices are apart
abbrev apart : Told
apart = on_p (call 1 1 (6 ∷ []) ∷ call 1 2 (7 ∷ []) ∷ call 2 4 (8 ∷ []) ∷ [])

-- the run from a to z deleted, b replaced by e, c after a. By rule 0 c is own: the empty run behind a is strictly inside the run from a to z, and what comes there is deleted with it. By rule 1 the run takes c
abbrev not_apart : Told
not_apart = on_p (call 5 2 (3 ∷ []) ∷ call 2 4 (8 ∷ []) ∷ call 1 2 (6 ∷ []) ∷ [])

-- the root replaced: what comes in its place is no splice of tree 0
abbrev root_replaced : Told
root_replaced = on_p (call 2 0 (5 ∷ []) ∷ [])

-- P by R(P'(a)), P mapped to P', c after a: c comes into R, in its own tree, and then R into tree 0. R is 9, P' 10
abbrev dependent : Told
dependent = record {
  trees = (on_p []).trees ++ (node_of 6 (node_of 2 (token_of 3 "a" ∷ []) ∷ []) ∷ []);
  calls = call 2 1 (9 ∷ []) ∷ call 1 2 (6 ∷ []) ∷ [];
  mappings = (1, 10) ∷ [];
  notes = [];
}

-- c into z, then d into z, and e after z: splices into a parent without children, apart from the one beside it
abbrev into_empty : Told
into_empty = on_p (call 0 3 (6 ∷ []) ∷ call 0 3 (7 ∷ []) ∷ call 1 3 (8 ∷ []) ∷ [])

-- of a batch, by a choice: whether demand 3's last sentence speaks of it, its new text, and that of tree 0 rewritten in one go
abbrev Compared : Type 0
Compared = Answer Bool × Answer (List ℕ) × Answer (List ℕ)

-- it speaks of the batch, and both texts are this one
abbrev agree : String → Compared
agree s = (gives true, gives (ascii s), gives (ascii s))

unfoldable pub compared : Choices → Told → Compared
compared h b = (apart_batch? h (in_bytes b), (edit h (in_bytes b) >>= λ r. gives r.text), (one_go_of h (in_bytes b) >>= λ ts. gives (flat_map text ts)))

-- THE CLOSING CALL (`definition`): by rule 0 only the deletion is a splice, by rule 1 the insertion after the block is one too.
-- Where the sentence speaks, both texts are one; where splices are not apart, or the root is replaced, they differ.
pub compares : (map (compared (edge 0)) (apart ∷ dependent ∷ into_empty ∷ []) ≡ (agree "adce" ∷ agree "acb" ∷ agree "adceb" ∷ []))
    × (map (compared (edge 1)) (apart ∷ dependent ∷ into_empty ∷ []) ≡ (agree "adce" ∷ agree "acb" ∷ agree "adceb" ∷ []))
    × (map (λ n. compared (edge n) closing_call) (0 ∷ 1 ∷ []) ≡ (agree "su" ∷ agree "scu" ∷ []))
    × (map (λ n. compared (edge n) not_apart) (0 ∷ 1 ∷ []) ≡ ((gives false, gives (ascii "e"), gives (ascii "ce")) ∷ agree "e" ∷ []))
    × (map (λ n. compared (edge n) root_replaced) (0 ∷ 1 ∷ []) ≡ ((gives false, gives (ascii "cde"), gives (ascii "ab")) ∷ (gives false, gives (ascii "cde"), gives (ascii "ab")) ∷ []))
unfolding
    computed in_lists in_bytes compared replaces_root apart_in? apart_plan? apart_batch? one_go_of
    Check.each Check.pairs Check.enters? Check.run? Check.fits? Check.apart? Check.all_apart?
    Splices.same_path Splices.left_of Splices.under Splices.from_root Splices.from_child Splices.at_root Splices.below Splices.insert_by_left Splices.left_to_right Splices.new_children Splices.one_go Splices.one_go_all
compares = (refl, refl, refl, refl, refl)
