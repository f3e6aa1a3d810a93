-- Both edge rules on the cases where they part: one table, by computation; and the choices as numbers and as arguments.
-- Assumes nothing.
use Rattle.std.specs.Prelude.{◌≡◌, refl, List, [], ◌∷◌, ◌++◌, map, ℕ, replicate}
use Prim.Native.String.{String}
use Rattle.orders.specs.Tree.{Tree}
use Rattle.definition.specs.Basics.{Answer, refused, gives, ◌>>=◌}
use Rattle.definition.specs.Choices.{Choices, no_choice, given}
use Rattle.definition.specs.Refusals.{Call, accepted}
use Rattle.definition.specs.Recording.{recorded}
use Rattle.definition.specs.Planning.{Fate, own, dependent, discarded, sorted, changes_of}
use Rattle.definition.specs.EdgeRule.{fates_by}
use Rattle.definition.specs.Finishing.{Result}
use Rattle.definition.specs.Answers.{edit, edited}
use Rattle.definition.specs.FindElement.{find_element}
use Rattle.definition.specs.Printed.{ascii, printed}
use Rattle.definition.specs.Account.{accounted, account_printed}
use Rattle.definition.specs.Computing.{computed}
use Rattle.definition.specs.Examples.{Told, in_lists, in_bytes, node_of, token_of, call, on_s}

-- ── Batches ─────────────────────────────────────────────────────────────────────────────────────────────────

-- calls on these trees
abbrev pub on : List (Tree ℕ) → List Call → Told
on trees calls = record { trees = trees; calls = calls; mappings = []; notes = [] }

-- calls on S (Examples) with an element mapped to another
abbrev on_s_with : ℕ → ℕ → List Call → Told
on_s_with input output calls = record { trees = (on_s []).trees; calls = calls; mappings = (input, output) ∷ []; notes = [] }

-- calls on a block of two statements, root(block(s, t), u): the block is 1, s 2, t 4, u 6; c is 8. The block and t end at one offset
abbrev on_block : List Call → Told
on_block = on (node_of 1 (node_of 2 (node_of 3 (token_of 4 "s" ∷ []) ∷ node_of 3 (token_of 4 "t" ∷ []) ∷ []) ∷ token_of 4 "u" ∷ []) ∷ node_of 5 (token_of 6 "c" ∷ []) ∷ [])

-- THE CLOSING CALL: the block's last statement is deleted, c after the block
abbrev pub closing_call : Told
closing_call = on_block (call 3 4 [] ∷ call 1 1 (8 ∷ []) ∷ [])

-- calls on root(A(a), B(b), C(c), d): A is 1, B 3, C 5, d 7; x is 9, y 10
abbrev pub on_row : List Call → Told
on_row = on (node_of 1 (node_of 2 (token_of 3 "a" ∷ []) ∷ node_of 2 (token_of 3 "b" ∷ []) ∷ node_of 2 (token_of 3 "c" ∷ []) ∷ token_of 3 "d" ∷ []) ∷ node_of 5 (token_of 6 "x" ∷ token_of 6 "y" ∷ []) ∷ [])

-- calls on root(Y, Z, V, b), Y, Z and V empty: Y is 1, Z 2, V 3; c is 6, d 7
abbrev pub on_empty : List Call → Told
on_empty = on (node_of 1 (node_of 2 [] ∷ node_of 2 [] ∷ node_of 2 [] ∷ token_of 4 "b" ∷ []) ∷ node_of 5 (token_of 6 "c" ∷ token_of 6 "d" ∷ []) ∷ [])

-- calls on root(X(Y(a)), b): X is 1, Y 2, a 3; c is 6, its root 5
abbrev on_y : List Call → Told
on_y = on (node_of 1 (node_of 2 (node_of 3 (token_of 3 "a" ∷ []) ∷ []) ∷ token_of 4 "b" ∷ []) ∷ node_of 5 (token_of 6 "c" ∷ []) ∷ [])

-- calls on root(X(Y(a)), b) beside R(X'(Y'(a))) and Q(Y''(a)), X mapped to X' and Y to Y'': X is 1, Y 2, a 3; c is 6, R 7, Q 11
abbrev nested_owners : List Call → Told
nested_owners calls =
    let Y : Tree ℕ = node_of 3 (token_of 3 "a" ∷ []) in
    record { trees = (on_y []).trees ++ (node_of 7 (node_of 2 (Y ∷ []) ∷ []) ∷ node_of 8 (Y ∷ []) ∷ []); calls = calls; mappings = (1, 8) ∷ (2, 12) ∷ []; notes = [] }

-- ── What is told of each ────────────────────────────────────────────────────────────────────────────────────

-- an edge rule chosen
abbrev pub edge : ℕ → Choices
edge n = record { edge = n; stronger = 0 }

-- the fates by a choice, in sorted order
unfoldable pub fates_of : Choices → Told → Answer (List Fate)
fates_of h b = accepted (in_bytes b) >>= λ a. gives (fates_by h a.table (changes_of (sorted a.table (recorded a.calls))))

-- the text that a choice gives
unfoldable pub text_by : Choices → Told → Answer (List ℕ)
text_by h b = edit h (in_bytes b) >>= λ r. gives r.text

-- a text
abbrev text : String → Answer (List ℕ)
text s = gives (ascii s)

-- a batch; its fates by rule 1; its text by rule 0 and by rule 1
pub record Case : Type 0 where
  pub batch : Told
  pub fates : List Fate
  pub zeroth : Answer (List ℕ)
  pub first : Answer (List ℕ)

abbrev case : Told → List Fate → Answer (List ℕ) → Answer (List ℕ) → Case
case b f z o = record { batch = b; fates = f; zeroth = z; first = o }

-- each case, and what is told of it
abbrev pub cases : List Case
cases =
    case closing_call (own ∷ own ∷ []) (text "su") (text "scu")
    -- delete X, c after X
    ∷ case (on_s (call 3 1 [] ∷ call 1 1 (5 ∷ []) ∷ [])) (own ∷ own ∷ []) (text "b") (text "cb")
    -- X by R, c after X: no dependent
    ∷ case (on_s (call 2 1 (8 ∷ []) ∷ call 1 1 (5 ∷ []) ∷ [])) (own ∷ own ∷ []) (refused 9) (text "acb")
    -- X by R, X mapped to X', c after a: a dependent
    ∷ case (on_s_with 1 9 (call 2 1 (8 ∷ []) ∷ call 1 2 (5 ∷ []) ∷ [])) (own ∷ dependent 0 ∷ []) (text "acb") (text "acb")
    -- delete X, c as first child of X
    ∷ case (on_s (call 3 1 [] ∷ call 0 1 (5 ∷ []) ∷ [])) (own ∷ discarded 0 ∷ []) (text "b") (text "b")
    -- delete X, b by d, c after a: rule 0 says own, and c goes with X; rule 1 says who takes it
    ∷ case (on_s (call 3 1 [] ∷ call 2 3 (7 ∷ []) ∷ call 1 2 (5 ∷ []) ∷ [])) (own ∷ own ∷ discarded 0 ∷ []) (text "d") (text "d")
    -- delete the token a, c after a: a token adds no region
    ∷ case (on_s (call 3 2 [] ∷ call 1 2 (5 ∷ []) ∷ [])) (own ∷ own ∷ []) (text "cb") (text "cb")
    -- delete X, c after X' in another tree
    ∷ case (on_s (call 3 1 [] ∷ call 1 9 (5 ∷ []) ∷ [])) (own ∷ own ∷ []) (text "b") (text "b")
    -- delete X, Y by a node, c after a: a discarded change is a region too, and discards
    ∷ case (on_y (call 3 1 [] ∷ call 2 2 (5 ∷ []) ∷ call 1 3 (6 ∷ []) ∷ [])) (own ∷ discarded 0 ∷ discarded 1 ∷ []) (text "b") (text "b")
    -- the run from A to C goes, x before it, y after A, y after C
    ∷ case (on_row (call 5 1 (5 ∷ []) ∷ call 0 0 (9 ∷ []) ∷ call 1 1 (10 ∷ []) ∷ call 1 5 (10 ∷ []) ∷ [])) (own ∷ own ∷ discarded 1 ∷ own ∷ []) (text "xd") (text "xyd")
    -- the run from A to C goes, x into C
    ∷ case (on_row (call 5 1 (5 ∷ []) ∷ call 0 5 (9 ∷ []) ∷ [])) (own ∷ discarded 0 ∷ []) (text "d") (text "d")
    -- the run from A to C, and B deleted: 8 keeps its rule
    ∷ case (on_row (call 5 1 (5 ∷ []) ∷ call 3 3 [] ∷ [])) (own ∷ discarded 0 ∷ []) (refused 8) (refused 8)
    -- delete Z, c into Y: both stand at one offset
    ∷ case (on_empty (call 3 2 [] ∷ call 0 1 (6 ∷ []) ∷ [])) (own ∷ own ∷ []) (text "b") (text "cb")
    -- the run from Y to V, c after Y: the region is sorted after its change
    ∷ case (on_empty (call 5 1 (3 ∷ []) ∷ call 1 1 (6 ∷ []) ∷ [])) (discarded 1 ∷ own ∷ []) (refused 11) (text "b")
    -- the run from Y to V, c after V, which is between no two of the run
    ∷ case (on_empty (call 5 1 (3 ∷ []) ∷ call 1 3 (6 ∷ []) ∷ [])) (own ∷ own ∷ []) (refused 11) (refused 11)
    -- the run from Z to V, then the run from Y to V by c: the outer one takes the inner one, whichever is sorted first
    ∷ case (on_empty (call 5 2 (3 ∷ []) ∷ call 5 1 (3 ∷ 6 ∷ []) ∷ [])) (discarded 1 ∷ own ∷ []) (text "b") (text "cb")
    ∷ case (on_empty (call 5 1 (3 ∷ 6 ∷ []) ∷ call 5 2 (3 ∷ []) ∷ [])) (own ∷ discarded 0 ∷ []) (text "cb") (text "cb")
    -- the run from Y to V by c and again by d: the first sorted takes the equal one
    ∷ case (on_empty (call 5 1 (3 ∷ 6 ∷ []) ∷ call 5 1 (3 ∷ 7 ∷ []) ∷ [])) (own ∷ discarded 0 ∷ []) (text "cb") (text "cb")
    -- delete Z, the run from Y to V by c
    ∷ case (on_empty (call 3 2 [] ∷ call 5 1 (3 ∷ 6 ∷ []) ∷ [])) (own ∷ discarded 0 ∷ []) (text "cb") (text "cb")
    -- Z by a node, the run from Y to V, c into Z: the run takes the replacement, which takes c, and so discards it
    ∷ case (on_empty (call 2 2 (5 ∷ []) ∷ call 5 1 (3 ∷ []) ∷ call 0 2 (6 ∷ []) ∷ [])) (own ∷ discarded 0 ∷ discarded 1 ∷ []) (text "b") (text "b")
    -- X by a node, Y in it by a node, c after a: owners one around another
    ∷ case (nested_owners (call 2 1 (7 ∷ []) ∷ call 2 2 (11 ∷ []) ∷ call 1 3 (6 ∷ []) ∷ [])) (own ∷ dependent 0 ∷ dependent 1 ∷ []) (text "acb") (text "acb")
    -- one editor deletes Y, another replaces it by a node, c into Y: of two regions at one depth the last
    ∷ case (on_empty (call 3 1 [] ∷ call 6 0 [] ∷ call 2 1 (5 ∷ []) ∷ call 0 1 (6 ∷ []) ∷ [])) (own ∷ own ∷ dependent 1 ∷ []) (text "b") (refused 9)
    -- delete Y, the root by a node, c into Y: the root's replacement is the outermost, though sorted later
    ∷ case (on_empty (call 3 1 [] ∷ call 2 0 (5 ∷ []) ∷ call 0 1 (6 ∷ []) ∷ [])) (dependent 1 ∷ own ∷ discarded 0 ∷ []) (refused 9) (refused 9)
    -- two editors delete Y
    ∷ case (on_empty (call 3 1 [] ∷ call 6 0 [] ∷ call 3 1 [] ∷ [])) (own ∷ own ∷ []) (text "b") (refused 11)
    -- the root by a node, c as first child of the root: the region is the root's replacement, sorted later
    ∷ case (on_s (call 2 0 (4 ∷ []) ∷ call 0 0 (5 ∷ []) ∷ [])) (dependent 1 ∷ own ∷ []) (refused 11) (refused 9)
    ∷ []

-- Each case is as told: its fates by rule 1, its text by rule 0, its text by rule 1.
pub both_rules : (map (λ c. fates_of (edge 1) c.batch) cases ≡ map (λ c. gives c.fates) cases)
    × (map (λ c. text_by (edge 0) c.batch) cases ≡ map (λ c. c.zeroth) cases)
    × (map (λ c. text_by (edge 1) c.batch) cases ≡ map (λ c. c.first) cases)
unfolding computed in_lists in_bytes fates_of text_by
both_rules = (refl, refl, refl)

-- two numbers as choices
abbrev choose : ℕ × ℕ → Choices
choose n = record { edge = n.0; stronger = n.1 }

-- right and wrong ones
abbrev numbers : List (ℕ × ℕ)
numbers = (0, 0) ∷ (1, 1) ∷ (2, 0) ∷ (2, 2) ∷ (0, 2) ∷ []

-- 17, and 18 after it, come before 1 and before a batch of no bytes, for the edit, for `find_element` and for the account; else 1 before the batch.
pub wrong_choice : (map (λ n. edited (choose n) ((0, 1) ∷ []) [] 0) numbers ≡ refused 1 ∷ refused 1 ∷ refused 17 ∷ refused 17 ∷ refused 18 ∷ [])
    × (map (λ n. find_element (choose n) ((0, 1) ∷ []) [] 0) numbers ≡ refused 1 ∷ refused 1 ∷ refused 17 ∷ refused 17 ∷ refused 18 ∷ [])
    × (map (λ n. accounted (choose n) ((0, 1) ∷ []) [] 0) numbers ≡ refused 1 ∷ refused 1 ∷ refused 17 ∷ refused 17 ∷ refused 18 ∷ [])
    × (map (λ n. printed (choose n) []) numbers ≡ map ascii ("refused 2\n" ∷ "refused 2\n" ∷ "refused 17\n" ∷ "refused 17\n" ∷ "refused 18\n" ∷ []))
    × (map (λ n. account_printed (choose n) []) numbers ≡ map ascii ("2\n" ∷ "2\n" ∷ "17\n" ∷ "17\n" ∷ "18\n" ∷ []))
unfolding computed
wrong_choice = (refl, refl, refl, refl, refl)

-- The programs' arguments, beside a batch of no bytes (2): without one, and with `0` or `1`; any other first argument is 17, any other second one 18.
pub arguments_told : (map (λ a. printed (given a) []) ([] ∷ map (λ a. ascii a ∷ []) ("0" ∷ "1" ∷ [])) ≡ map ascii ("refused 2\n" ∷ "refused 2\n" ∷ "refused 2\n" ∷ []))
    × (map (λ a. printed (given (ascii a ∷ [])) []) ("2" ∷ "9" ∷ "01" ∷ "10" ∷ "x" ∷ "/" ∷ ":" ∷ "-1" ∷ " 1" ∷ "" ∷ []) ≡ replicate 10 (ascii "refused 17\n"))
    × (map (λ a. (given a).edge) ([] ∷ map (λ a. ascii a ∷ []) ("0" ∷ "1" ∷ "2" ∷ "01" ∷ "x" ∷ "" ∷ [])) ≡ 0 ∷ 0 ∷ 1 ∷ 2 ∷ no_choice ∷ no_choice ∷ no_choice ∷ [])
    × (map (λ a. printed (given (ascii "1" ∷ ascii a ∷ ascii "x" ∷ [])) []) ("0" ∷ "1" ∷ "2" ∷ "01" ∷ "x" ∷ "" ∷ []) ≡ map ascii ("refused 2\n" ∷ "refused 2\n" ∷ "refused 18\n" ∷ "refused 18\n" ∷ "refused 18\n" ∷ "refused 18\n" ∷ []))
    × (printed (given (ascii "2" ∷ ascii "2" ∷ [])) [] ≡ ascii "refused 17\n")
    × (given (ascii "1" ∷ ascii "0" ∷ []) ≡ record { edge = 1; stronger = 0 })
    × (given (ascii "0" ∷ ascii "1" ∷ []) ≡ record { edge = 0; stronger = 1 })
unfolding computed
arguments_told = (refl, refl, refl, refl, refl, refl, refl)

-- The account of the closing call by either rule: "The account of Note 5 names that region instead."
pub closing_call_told : map (λ n. account_printed (edge n) (in_bytes closing_call)) (0 ∷ 1 ∷ []) ≡ map ascii ("0 own\n1 discarded 0\n" ∷ "0 own\n1 own\n" ∷ [])
unfolding computed in_lists in_bytes
closing_call_told = refl
