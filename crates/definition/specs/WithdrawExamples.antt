-- Stronger rules first, off and on, on the cases where they part: one table, by computation.
-- Assumes nothing.
use Rattle.std.specs.Prelude.{◌≡◌, refl, List, [], ◌∷◌, map, ℕ}
use Prim.Native.String.{String}
use Rattle.definition.specs.Basics.{Answer, refused, gives, ◌>>=◌}
use Rattle.definition.specs.Choices.{Choices}
use Rattle.definition.specs.Refusals.{Call}
use Rattle.definition.specs.Answers.{edit}
use Rattle.definition.specs.Printed.{ascii}
use Rattle.definition.specs.Account.{account_printed}
use Rattle.definition.specs.Computing.{computed}
use Rattle.definition.specs.Examples.{Told, in_lists, in_bytes, node_of, token_of, call, call_by, on_s}
use Rattle.definition.specs.EdgeExamples.{on, on_row, on_empty}

-- ── Batches ─────────────────────────────────────────────────────────────────────────────────────────────────

-- calls on root(z, b), z empty: z is 1, b 2
abbrev on_z : List Call → Told
on_z = on (node_of 1 (node_of 2 [] ∷ token_of 4 "b" ∷ []) ∷ node_of 5 (token_of 6 "c" ∷ []) ∷ [])

-- "Two rule books, each with an editor of its own, often replace the same node, and the whole batch is refused.": X by c, and X by d
abbrev pub two_books : ℕ → ℕ → Told
two_books first second = on_s (call_by first 2 1 (5 ∷ []) ∷ call 6 0 [] ∷ call_by second 2 1 (7 ∷ []) ∷ [])

-- ── What is told of each case ───────────────────────────────────────────────────────────────────────────────

-- an edge rule without the choice
abbrev off : ℕ → Choices
off edge = record { edge = edge; stronger = 0 }

-- and with it: stronger rules first
abbrev first : ℕ → Choices
first edge = record { edge = edge; stronger = 1 }

-- the text that the edit gives, and how many changes it counts as discarded
unfoldable pub outcome : Choices → Told → Answer (List ℕ × ℕ)
outcome h b = edit h (in_bytes b) >>= λ r. gives (r.text, r.discarded)

-- a text, and a count
abbrev text : String → ℕ → Answer (List ℕ × ℕ)
text s n = gives (ascii s, n)

-- a batch; what the edit gives with the choice off and on; the account of the latter
pub record Case : Type 0 where
  pub batch : Told
  pub off : Answer (List ℕ × ℕ)
  pub on : Answer (List ℕ × ℕ)
  pub account : String

abbrev case : Told → Answer (List ℕ × ℕ) → Answer (List ℕ × ℕ) → String → Case
case b off on s = record { batch = b; off = off; on = on; account = s }

-- ── The table ───────────────────────────────────────────────────────────────────────────────────────────────

-- each case, and what is told of it, by edge rule 0
abbrev pub cases : List Case
cases =
    case (two_books 1 2) (refused 8) (text "db" 0) "0 withdrawn 1\n1 own\n"
    ∷ case (two_books 2 1) (refused 8) (text "cb" 0) "0 own\n1 withdrawn 0\n"
    -- of one number neither is withdrawn
    ∷ case (two_books 2 2) (refused 8) (refused 8) "overlap 0 1\n"
    -- root(z, b), z empty: delete b by rule 1, then z by rule 0: 8 is left over between different numbers, for they share nothing
    ∷ case (on_z (call_by 1 3 2 [] ∷ call_by 0 3 1 [] ∷ [])) (refused 8) (refused 8) "overlap 0 1\n"
    -- delete X by rule 1, a in it by c, by rule 2: a stronger change inside a weaker one's node is discarded all the same
    ∷ case (on_s (call_by 1 3 1 [] ∷ call_by 2 2 2 (5 ∷ []) ∷ [])) (text "b" 1) (text "b" 1) "0 own\n1 discarded 0\n"
    -- the runs from A to B and from B to C, and C: the middle one is withdrawn, and then withdraws no other
    ∷ case (on_row (call_by 3 5 1 (3 ∷ []) ∷ call_by 2 5 3 (5 ∷ []) ∷ call_by 1 3 5 [] ∷ [])) (refused 8) (text "d" 0) "0 own\n1 withdrawn 0\n2 own\n"
    -- the run from A to C by rule 1; A by rule 2, B and C by rule 3: k has the highest number, and is the first of it
    ∷ case (on_row (call_by 1 5 1 (5 ∷ []) ∷ call_by 2 3 1 [] ∷ call_by 3 3 3 [] ∷ call_by 3 3 5 [] ∷ [])) (refused 8) (text "d" 0) "0 withdrawn 2\n1 own\n2 own\n3 own\n"
    -- A deleted by two, the run from B to C, x after B: "numbers count withdrawn changes too"
    ∷ case (on_row (call_by 1 3 1 [] ∷ call 6 0 [] ∷ call_by 2 3 1 [] ∷ call 5 3 (5 ∷ []) ∷ call 1 3 (9 ∷ []) ∷ [])) (refused 8) (text "d" 1) "0 withdrawn 1\n1 own\n2 own\n3 discarded 2\n"
    -- A deleted by two, B deleted by two of one number: "Line 8 then concerns what is left."
    ∷ case (on_row (call_by 1 3 1 [] ∷ call 3 3 [] ∷ call 6 0 [] ∷ call_by 2 3 1 [] ∷ call 3 3 [] ∷ [])) (refused 8) (refused 8) "overlap 2 3\n"
    -- the run from A to C by rule 5, x after A by rule 1: insertions are never withdrawn
    ∷ case (on_row (call_by 5 5 1 (5 ∷ []) ∷ call_by 1 1 1 (9 ∷ []) ∷ [])) (text "d" 1) (text "d" 1) "0 own\n1 discarded 0\n"
    -- Y, which is empty, deleted by rule 1 and by rule 2: both remove it, though neither starts before the other ends; off, one is discarded
    ∷ case (on_empty (call_by 1 3 1 [] ∷ call 6 0 [] ∷ call_by 2 3 1 [] ∷ [])) (text "b" 1) (text "b" 0) "0 withdrawn 1\n1 own\n"
    -- the run from Y to V, all empty, by rule 1; Z in it by c, by rule 2
    ∷ case (on_empty (call_by 1 5 1 (3 ∷ []) ∷ call_by 2 2 2 (6 ∷ []) ∷ [])) (text "b" 1) (text "cb" 0) "0 withdrawn 1\n1 own\n"
    -- delete Y by rule 1, Y by a node by rule 2, c into Y: on can refuse what off accepts
    ∷ case (on_empty (call_by 1 3 1 [] ∷ call 6 0 [] ∷ call_by 2 2 1 (5 ∷ []) ∷ call 0 1 (6 ∷ []) ∷ [])) (text "b" 2) (refused 9) "9\n"
    ∷ []

-- Each case is as told: what the edit gives with the choice off, what it gives with it on, and the account of that.
pub off_and_on : (map (λ c. outcome (off 0) c.batch) cases ≡ map (λ c. c.off) cases)
    × (map (λ c. outcome (first 0) c.batch) cases ≡ map (λ c. c.on) cases)
    × (map (λ c. account_printed (first 0) (in_bytes c.batch)) cases ≡ map (λ c. ascii c.account) cases)
unfolding computed in_lists in_bytes outcome
off_and_on = (refl, refl, refl)

-- The run from A to B by rule 1, A deleted by rule 2, x after A: a region that is withdrawn is none, so under edge rule 1 x is its own.
abbrev pub region_gone : Told
region_gone = on_row (call_by 1 5 1 (3 ∷ []) ∷ call_by 2 3 1 [] ∷ call 1 1 (9 ∷ []) ∷ [])

pub no_region : (outcome (first 1) region_gone ≡ text "xbcd" 0) × (account_printed (first 1) (in_bytes region_gone) ≡ ascii "0 withdrawn 1\n1 own\n2 own\n")
unfolding computed in_lists in_bytes outcome
no_region = (refl, refl)
