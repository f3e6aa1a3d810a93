-- Claims that are written out, and what the checker answers: by computation.
-- Assumes nothing.
use Rattle.std.specs.Prelude.{◌≡◌, refl, Bool, true, false, List, [], ◌∷◌, map, ℕ, replicate}
use Rattle.orders.specs.Tree.{Tree, label, measure, text, preorder}
use Rattle.definition.specs.Basics.{Answer, refused, gives}
use Rattle.definition.specs.Computing.{computed}
use Rattle.definition.specs.Examples.{node_of, token_of}
use Rattle.check_laws.specs.Check
use Rattle.check_laws.specs.Check.{Flat, Claims, roots_paired, none_twice, pairs_alike, parents_paired, orders_agree, all_accounted, checked}

-- a tree as lists
unfoldable pub flat : Tree ℕ → Flat
flat t = record { kinds = map label (preorder t); measures = map measure (preorder t); text = text t }

-- root(X(a), b): X is 1, a 2, b 3
abbrev before : Tree ℕ
before = node_of 1 (node_of 2 (token_of 3 "a" ∷ []) ∷ token_of 3 "b" ∷ [])

-- root(c, X(a), b): c came in, and is 1; X is 2, a 3, b 4
abbrev after : Tree ℕ
after = node_of 1 (token_of 3 "c" ∷ node_of 2 (token_of 3 "a" ∷ []) ∷ token_of 3 "b" ∷ [])

abbrev claims : Tree ℕ → Tree ℕ → List ℕ → List ℕ → List ℕ → Claims
claims old new olds news changed = record { old = flat old; new = flat new; olds = olds; news = news; changed = changed }

-- claims that are accepted or refused, and the answer
abbrev tried : List (Claims × Answer Bool)
tried =
    -- all that stayed is paired, c is changed: accepted; so where c is named twice
    (claims before after (0 ∷ 1 ∷ 2 ∷ 3 ∷ []) (0 ∷ 2 ∷ 3 ∷ 4 ∷ []) (1 ∷ []), gives true)
    ∷ (claims before after (0 ∷ 1 ∷ 2 ∷ 3 ∷ []) (0 ∷ 2 ∷ 3 ∷ 4 ∷ []) (1 ∷ 1 ∷ []), gives true)
    -- X and what is below it may be changed instead of kept; a need not be named again below it
    ∷ (claims before after (0 ∷ 3 ∷ []) (0 ∷ 4 ∷ []) (1 ∷ 2 ∷ []), gives true)
    ∷ (claims before after (0 ∷ 3 ∷ []) (0 ∷ 4 ∷ []) (1 ∷ 2 ∷ 3 ∷ []), gives true)
    -- 3 before 4, 4 before 5, 5 before 19, 19 before the clauses; a tree of no element gets 5
    ∷ (record { old = record { kinds = replicate 4097 0; measures = []; text = [] }; new = flat after; olds = 0 ∷ []; news = []; changed = [] }, refused 3)
    ∷ (record { old = flat before; new = record { kinds = []; measures = []; text = replicate 16385 0 }; olds = 0 ∷ []; news = []; changed = [] }, refused 3)
    ∷ (record { old = record { kinds = []; measures = []; text = [] }; new = flat after; olds = 0 ∷ []; news = []; changed = [] }, refused 4)
    ∷ (record { old = record { kinds = []; measures = []; text = [] }; new = flat after; olds = 9 ∷ []; news = 0 ∷ []; changed = [] }, refused 5)
    ∷ (record { old = flat before; new = record { kinds = []; measures = []; text = [] }; olds = 9 ∷ []; news = 0 ∷ []; changed = [] }, refused 5)
    ∷ (claims before after (4 ∷ []) (4 ∷ []) [], refused 19)
    ∷ (claims before after [] [] (5 ∷ []), refused 19)
    ∷ []

-- trees, pairs and changed elements that break one clause each
pub record Broken : Type 0 where
  pub old : Tree ℕ
  pub new : Tree ℕ
  pub pairs : List (ℕ × ℕ)
  pub changed : List ℕ

-- what each clause says of them, the first first
unfoldable pub clauses : Broken → List Bool
clauses b =
    let os = b.old ∷ [] in
    let ns = b.new ∷ [] in
    roots_paired os ns b.pairs ∷ none_twice os ns b.pairs ∷ pairs_alike os ns b.pairs ∷ parents_paired os ns b.pairs ∷ orders_agree os ns b.pairs ∷ all_accounted os ns b.pairs b.changed ∷ []

unfoldable pub answer : Broken → Answer Bool
answer b = checked (claims b.old b.new (map (λ p. p.0) b.pairs) (map (λ p. p.1) b.pairs) b.changed)

-- two equal tokens
abbrev twins : Tree ℕ
twins = node_of 1 (token_of 3 "a" ∷ token_of 3 "a" ∷ [])

-- each with the clauses' verdicts
abbrev broken : List (Broken × List Bool)
broken =
    -- 1: all is changed, the root too
    (record { old = before; new = after; pairs = []; changed = 0 ∷ [] }, false ∷ true ∷ true ∷ true ∷ true ∷ true ∷ [])
    -- 2: a pair is given twice
    ∷ (record { old = before; new = after; pairs = (0, 0) ∷ (1, 2) ∷ (2, 3) ∷ (3, 4) ∷ (3, 4) ∷ []; changed = 1 ∷ [] }, true ∷ false ∷ true ∷ true ∷ true ∷ true ∷ [])
    -- 3: b has become z
    ∷ (record { old = before; new = node_of 1 (node_of 2 (token_of 3 "a" ∷ []) ∷ token_of 3 "z" ∷ []); pairs = (0, 0) ∷ (1, 1) ∷ (2, 2) ∷ (3, 3) ∷ []; changed = [] }, true ∷ true ∷ false ∷ true ∷ true ∷ true ∷ [])
    -- 3: X has become a node of another kind
    ∷ (record { old = before; new = node_of 1 (node_of 9 (token_of 3 "a" ∷ []) ∷ token_of 3 "b" ∷ []); pairs = (0, 0) ∷ (1, 1) ∷ (2, 2) ∷ (3, 3) ∷ []; changed = [] }, true ∷ true ∷ false ∷ true ∷ true ∷ true ∷ [])
    -- 4: a has left X: both parents are paired, but are no pair
    ∷ (record { old = before; new = node_of 1 (node_of 2 [] ∷ token_of 3 "a" ∷ []); pairs = (0, 0) ∷ (1, 1) ∷ (2, 2) ∷ []; changed = [] }, true ∷ true ∷ true ∷ false ∷ true ∷ true ∷ [])
    -- 5: two equal tokens have changed places
    ∷ (record { old = twins; new = twins; pairs = (0, 0) ∷ (1, 2) ∷ (2, 1) ∷ []; changed = [] }, true ∷ true ∷ true ∷ true ∷ false ∷ true ∷ [])
    -- 6: c is neither paired nor changed; b is both
    ∷ (record { old = before; new = after; pairs = (0, 0) ∷ (1, 2) ∷ (2, 3) ∷ (3, 4) ∷ []; changed = [] }, true ∷ true ∷ true ∷ true ∷ true ∷ false ∷ [])
    ∷ (record { old = before; new = after; pairs = (0, 0) ∷ (1, 2) ∷ (2, 3) ∷ (3, 4) ∷ []; changed = 1 ∷ 4 ∷ [] }, true ∷ true ∷ true ∷ true ∷ true ∷ false ∷ [])
    ∷ []

-- Each claim is answered as told; each of the broken ones breaks the clause told and no other, and is rejected.
pub examples : (map (λ m. checked m.0) tried ≡ map (λ m. m.1) tried)
    × (map (λ m. clauses m.0) broken ≡ map (λ m. m.1) broken)
    × (map (λ m. answer m.0) broken ≡ map (λ m. gives false) broken)
unfolding computed flat Check.too_big Check.unequal Check.alone Check.names_none Check.every Check.is_pair Check.same_bytes Check.own_text Check.text_at Check.no_repeat Check.are_pair Check.roots_paired Check.none_twice Check.pairs_alike Check.parents_paired Check.earlier Check.orders_agree Check.is_paired Check.is_covered Check.just_one Check.all_accounted Check.accepts Check.checked clauses answer
examples = (refl, refl, refl)
