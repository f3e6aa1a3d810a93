-- Small cases by computation: all orders of four splices, and what fails where splices are not apart.
-- Assumes nothing.
use Rattle.std.specs.Prelude.{◌≡◌, refl, Bool, true, false, length, replicate, ℕ}
use mathlib.Core.List.{List, [], ◌∷◌, ◌++◌, map, Permᴰ}
use Rattle.std.proofs.Math.Option
use Rattle.std.proofs.Math.Option.{Option, none, some, bind}
use Rattle.orders.specs.Lists.{pick, any, total}
use Rattle.orders.specs.Tree.{Tree, node, token, nil, cons, list, forest, Path, resolve, zone, adjust, modify, splice, text, front, last}
use Rattle.orders.specs.Splices.{same_path, Splice, inserted, deleted, left_of, begin, left_in, start, run_now, perform_at, perform, performs, under, from_root, from_child, at_root, below, insert_by_left, left_to_right, new_children, one_go, AllApart}
use Rattle.orders.proofs.Numbers.{holds}
use Rattle.orders.proofs.Demand.{Demanded, demand}
use Rattle.orders.proofs.Gaps.{starting_at, walk}
use Rattle.orders.proofs.Check.{each, pairs, enters?, run?, fits?, apart?, all_apart?, says_all_apart}
use Rattle.orders.proofs.Target.{after_child, run_by_target, perform_by_targets}

-- a token whose kind word and text are this letter, a number
abbrev letter : ℕ → Tree ℕ
letter c = token c (c ∷ [])

-- root(1, 2, X(3), 4)
abbrev old : Tree ℕ
old = node 0 (cons (letter 1) (cons (letter 2) (cons (node 0 (cons (letter 3) nil)) (cons (letter 4) nil))))

-- number, parent, run, and the letters that come
abbrev exchange : ℕ → Path → ℕ → ℕ → List ℕ → Splice ℕ
exchange n p a b new = record { number = n; parent = p; from = a; to = b; prepared = map letter new }

-- a list with x at each place
everywhere : Splice ℕ → List (Splice ℕ) → List (List (Splice ℕ))
everywhere x [] = (x ∷ []) ∷ []
everywhere x (y ∷ l) = (x ∷ y ∷ l) ∷ map (λ m. y ∷ m) (everywhere x l)

-- each list of some with x at each place
each_everywhere : Splice ℕ → List (List (Splice ℕ)) → List (List (Splice ℕ))
each_everywhere x [] = []
each_everywhere x (l ∷ ls) = everywhere x l ++ each_everywhere x ls

-- all orders of a list
orders : List (Splice ℕ) → List (List (Splice ℕ))
orders [] = [] ∷ []
orders (x ∷ l) = each_everywhere x (orders l)

-- the text, the present path of each old element but the root, and how many splices were done
record Result : Type 0 where
  letters : List ℕ
  paths : List (Option Path)
  done : ℕ

-- the old paths of 1, 2, X, 3 and 4
old_paths : List Path
old_paths = (0 ∷ []) ∷ (1 ∷ []) ∷ (2 ∷ []) ∷ (2 ∷ 0 ∷ []) ∷ (3 ∷ []) ∷ []

-- what a list of splices makes, done in this order
result : List (Splice ℕ) → Result
result S =
    let now = performs S (begin old) in
    record { letters = text now.tree; paths = map now.path old_paths; done = length now.done }

-- ── All orders ──────────────────────────────────────────────────────────────────────────────────────────────

-- two empty runs at one place, a run that starts there, and one that ends there
abbrev four : List (Splice ℕ)
four = exchange 0 [] 1 1 (7 ∷ []) ∷ exchange 1 [] 1 1 (8 ∷ []) ∷ exchange 2 [] 1 2 (5 ∷ 6 ∷ []) ∷ exchange 3 [] 0 1 (9 ∷ []) ∷ []

-- each order gives the same: 9 in the place of 1, then 8 (the higher number) and 7, then 5 and 6 in the place of 2; X is child 5 now
all_orders : map result (orders four)
    ≡ replicate 24 (record { letters = 9 ∷ 8 ∷ 7 ∷ 5 ∷ 6 ∷ 3 ∷ 4 ∷ []; paths = none ∷ none ∷ some (5 ∷ []) ∷ some (5 ∷ 0 ∷ []) ∷ some (6 ∷ []) ∷ []; done = 4 })
unfolding orders everywhere each_everywhere result old_paths text performs perform run_now perform_at start inserted deleted left_in left_of total same_path begin splice adjust modify zone bind list forest
all_orders = refl

-- and so do the one go and the walk gap by gap
one_go_lem : (text (one_go four old) ≡ 9 ∷ 8 ∷ 7 ∷ 5 ∷ 6 ∷ 3 ∷ 4 ∷ []) × (walk four old ≡ one_go four old)
unfolding text one_go at_root below pick from_root from_child under left_to_right insert_by_left left_of new_children walk starting_at any holds list forest
one_go_lem = (refl, refl)

-- they are apart, by the test, so the theorem speaks of them
four_apart : AllApart old four
unfolding all_apart? each pairs fits? run? apart? enters? same_path resolve list bind
four_apart = (says_all_apart old four).0 refl

four_demanded : (order : List (Splice ℕ)) → Permᴰ four order → Demanded old four (performs order (begin old))
four_demanded order r = demand old four order four_apart r

-- a splice in X, done before or after its parent moves
moved_parent : result (exchange 0 [] 0 1 [] ∷ exchange 1 (2 ∷ []) 1 1 (7 ∷ []) ∷ []) ≡ result (exchange 1 (2 ∷ []) 1 1 (7 ∷ []) ∷ exchange 0 [] 0 1 [] ∷ [])
unfolding result old_paths text performs perform run_now perform_at start inserted deleted left_in left_of total same_path begin splice adjust modify zone bind list forest
moved_parent = refl

-- root(Z, 4), Z without children
abbrev bare : Tree ℕ
bare = node 0 (cons (node 0 nil) (cons (letter 4) nil))

-- two splices into Z, and one before it
abbrev three : List (Splice ℕ)
three = exchange 0 (0 ∷ []) 0 0 (7 ∷ []) ∷ exchange 1 (0 ∷ []) 0 0 (8 ∷ []) ∷ exchange 2 [] 0 0 (9 ∷ []) ∷ []

-- a parent without children is a parent like any other: they are apart, and each order and the one go make 9, Z(8, 7), 4
empty_parent : (all_apart? bare three ≡ true) × (map (λ l. text (performs l (begin bare)).tree) (orders three) ≡ replicate 6 (9 ∷ 8 ∷ 7 ∷ 4 ∷ [])) × (text (one_go three bare) ≡ 9 ∷ 8 ∷ 7 ∷ 4 ∷ [])
unfolding all_apart? each pairs fits? run? apart? enters? resolve one_go at_root below pick from_root from_child under left_to_right insert_by_left new_children orders everywhere each_everywhere text performs perform run_now perform_at start inserted deleted left_in left_of total same_path begin splice adjust modify zone bind list forest
empty_parent = (refl, refl, refl)

-- ── Where they are not apart ────────────────────────────────────────────────────────────────────────────────

-- of two splices, what the test says, and what is made in the one order and in the other: letters, and how many were done
told : Splice ℕ → Splice ℕ → Bool × List (List ℕ × ℕ)
told s t = (all_apart? old (s ∷ t ∷ []), map (λ l. ((result l).letters, (result l).done)) ((s ∷ t ∷ []) ∷ (t ∷ s ∷ []) ∷ []))

-- each condition is needed
record Needed : Type 0 where
  -- one number for two empty runs at one place: which is left depends on the order
  one_number : told (exchange 0 [] 1 1 (7 ∷ [])) (exchange 0 [] 1 1 (8 ∷ [])) ≡ (false, (1 ∷ 8 ∷ 7 ∷ 2 ∷ 3 ∷ 4 ∷ [], 2) ∷ (1 ∷ 7 ∷ 8 ∷ 2 ∷ 3 ∷ 4 ∷ [], 2) ∷ [])
  -- an empty run strictly inside another
  strictly_inside : told (exchange 0 [] 0 2 (7 ∷ [])) (exchange 1 [] 1 1 (8 ∷ [])) ≡ (false, (7 ∷ 8 ∷ 3 ∷ 4 ∷ [], 2) ∷ (7 ∷ 2 ∷ 3 ∷ 4 ∷ [], 2) ∷ [])
  -- runs that share a child
  shared_child : told (exchange 0 [] 0 2 (7 ∷ [])) (exchange 1 [] 1 3 (8 ∷ [])) ≡ (false, (7 ∷ 8 ∷ [], 2) ∷ (7 ∷ 4 ∷ [], 2) ∷ [])
  -- a parent in a deleted child: in the one order it is gone, and its splice is not done
  parent_gone : told (exchange 0 [] 2 3 (7 ∷ [])) (exchange 1 (2 ∷ []) 0 0 (8 ∷ [])) ≡ (false, (1 ∷ 2 ∷ 7 ∷ 4 ∷ [], 1) ∷ (1 ∷ 2 ∷ 7 ∷ 4 ∷ [], 2) ∷ [])
  -- a parent that is a token: nothing is written
  token_parent : told (exchange 0 (0 ∷ []) 0 0 (7 ∷ [])) (exchange 1 [] 4 4 (8 ∷ [])) ≡ (false, (1 ∷ 2 ∷ 3 ∷ 4 ∷ 8 ∷ [], 2) ∷ (1 ∷ 2 ∷ 3 ∷ 4 ∷ 8 ∷ [], 2) ∷ [])

needed : Needed
unfolding told all_apart? each pairs fits? run? apart? enters? resolve result old_paths text performs perform run_now perform_at start inserted deleted left_in left_of total same_path begin splice adjust modify zone bind list forest
needed = record { one_number = refl; strictly_inside = refl; shared_child = refl; parent_gone = refl; token_parent = refl }

-- a run that ends before it starts: the one go writes children twice
reversed_run : (all_apart? old (exchange 0 [] 3 1 (7 ∷ []) ∷ []) ≡ false)
    × ((result (exchange 0 [] 3 1 (7 ∷ []) ∷ [])).letters ≡ 1 ∷ 2 ∷ 3 ∷ 7 ∷ 4 ∷ [])
    × (text (one_go (exchange 0 [] 3 1 (7 ∷ []) ∷ []) old) ≡ 1 ∷ 2 ∷ 3 ∷ 7 ∷ 2 ∷ 3 ∷ 4 ∷ [])
unfolding all_apart? each pairs fits? run? apart? enters? resolve one_go at_root below pick from_root from_child under left_to_right insert_by_left new_children result old_paths text performs perform run_now perform_at start inserted deleted left_in left_of total same_path begin splice adjust modify zone bind list forest
reversed_run = (refl, refl, refl)

-- ── Placed by targets ───────────────────────────────────────────────────────────────────────────────────────

-- 7 after X, then 8 after X: "putting later insertions at one spot to the right" would be a slip
after_x : ℕ → ℕ → List (Splice ℕ)
after_x m n = exchange m [] 3 3 (7 ∷ []) ∷ exchange n [] 3 3 (8 ∷ []) ∷ []

-- the letters, where each finds its place by the present path of X
by_targets : (m n : ℕ) → Option (List ℕ)
unfolding after_x
by_targets m n = Option.map (λ now. text now.tree) (perform_by_targets (after_x m n) (after_child 2 refl refl, (after_child 2 refl refl, tt)) (begin old))

-- numbered as performed, both ways agree; numbered otherwise, they do not
numbered_as_performed : (by_targets 0 1 ≡ some (1 ∷ 2 ∷ 3 ∷ 8 ∷ 7 ∷ 4 ∷ [])) × ((result (after_x 0 1)).letters ≡ 1 ∷ 2 ∷ 3 ∷ 8 ∷ 7 ∷ 4 ∷ [])
    × (by_targets 1 0 ≡ some (1 ∷ 2 ∷ 3 ∷ 8 ∷ 7 ∷ 4 ∷ [])) × ((result (after_x 1 0)).letters ≡ 1 ∷ 2 ∷ 3 ∷ 7 ∷ 8 ∷ 4 ∷ [])
unfolding by_targets after_x perform_by_targets run_by_target front last result old_paths text performs perform run_now perform_at start inserted deleted left_in left_of total same_path begin splice adjust modify zone bind list forest
numbered_as_performed = (refl, refl, refl, refl)
