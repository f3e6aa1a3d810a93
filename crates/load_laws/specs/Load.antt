-- Document 02, Note 12: the generator, and the load of a starting number. docs/LOAD.md says the same in words.
-- Assumes nothing.
use Rattle.std.specs.Prelude.{Bool, true, false, cond, ℕ, zero, suc, ◌+◌, ◌-◌, ◌*◌, ◌/◌, ◌%◌, length, ltb, eqb}
use mathlib.Core.List.{List, [], ◌∷◌, ◌++◌, map, flat_map}
use Rattle.definition.specs.Refusals.{Call}
use Rattle.definition.specs.Writing.{Lists}

-- ── The generator ───────────────────────────────────────────────────────────────────────────────────────────

-- "next = (1664525 × present + 1013904223) modulo 2^32"
unfoldable pub next : ℕ → ℕ
next present = (1664525 * present + 1013904223) % 4294967296

-- "each draw is the upper 16 bits of the next value"
unfoldable pub drawn : ℕ → ℕ
drawn present = next present / 65536

-- what the generator holds after n draws
unfoldable pub after : ℕ → ℕ → ℕ
after zero s = s
after (suc n) s = after n (next s)

-- draw k of a starting number, from draw 1 on
unfoldable pub draw : ℕ → ℕ → ℕ
draw k start = drawn (after (k - 1) start)

-- the next n draws
unfoldable pub draws : ℕ → ℕ → List ℕ
draws zero s = []
draws (suc n) s = drawn s ∷ draws n (next s)

-- ── The trees, the same for every starting number ───────────────────────────────────────────────────────────

-- Tree 0 is a node of kind 1 with 128 times a separator (kind 2) and a block (kind 3), which has four tokens (kind 4). Tree 1 is a node of kind 5 with
-- 16 donors (kind 6). Tree 2 is a node of kind 7, by which a block is replaced, with one block in it: the copy. Every token is one byte long.

-- separator i
unfoldable pub separator : ℕ → ℕ
separator i = 1 + 6 * i

-- block i
unfoldable pub block : ℕ → ℕ
block i = 2 + 6 * i

-- token j of block i
unfoldable pub block_token : ℕ → ℕ → ℕ
block_token i j = 3 + 6 * i + j

-- how many elements tree 0 has, and the root of tree 1
abbrev pub of_tree0 : ℕ
of_tree0 = 769

-- donor d
unfoldable pub donor : ℕ → ℕ
donor d = 770 + d

-- the root of tree 2, and the copy in it
abbrev pub replacement : ℕ
replacement = 786

abbrev pub copy : ℕ
copy = 787

-- how many elements there are
abbrev pub elements : ℕ
elements = 792

-- element e's kind word; 2,147,483,648 marks a node
unfoldable pub kind_at : ℕ → ℕ
kind_at e =
    let r : ℕ = (e - 1) % 6 in
    let in_tree0 : ℕ = cond (eqb r 0) 2 (cond (eqb r 1) 2147483651 4) in
    let in_tree2 : ℕ = cond (eqb e replacement) 2147483655 (cond (eqb e copy) 2147483651 4) in
    cond (eqb e 0) 2147483649 (cond (ltb e of_tree0) in_tree0 (cond (eqb e of_tree0) 2147483653 (cond (ltb e replacement) 6 in_tree2)))

-- element e's measure: how many children a node has; 1 for a token
unfoldable pub measure_at : ℕ → ℕ
measure_at e =
    let in_tree0 : ℕ = cond (eqb ((e - 1) % 6) 1) 4 1 in
    let in_tree2 : ℕ = cond (eqb e copy) 4 1 in
    cond (eqb e 0) 256 (cond (ltb e of_tree0) in_tree0 (cond (eqb e of_tree0) 16 (cond (ltb e replacement) 1 in_tree2)))

-- byte t of the text: each separator is ';' (59), token j of block i a small letter from 'a' (97) on, 'a' after 'z'; then the donors 'A' (65) to 'P',
-- and the copy's tokens '0' (48) to '3'
unfoldable pub byte_at : ℕ → ℕ
byte_at t =
    let in_tree0 : ℕ = cond (eqb (t % 5) 0) 59 (97 + (t / 5 + t % 5 - 1) % 26) in
    cond (ltb t 640) in_tree0 (cond (ltb t 656) (65 + (t - 640)) (48 + (t - 656)))

-- f of k, and of the numbers after it: n in all
unfoldable pub along : (ℕ → ℕ) → ℕ → ℕ → List ℕ
along f k zero = []
along f k (suc n) = f k ∷ along f (suc k) n

-- ── The calls ───────────────────────────────────────────────────────────────────────────────────────────────

-- a call, with its rule number first
abbrev pub call : ℕ → ℕ → ℕ → List ℕ → Call
call rule operation target listed = record { operation = operation; target = target; listed = listed; rule = rule }

-- which rule a draw names, from 0 to 4,095: its bits 4 to 15
unfoldable pub rule_drawn : ℕ → ℕ
rule_drawn d = d / 16

-- the block that call 0 replaces, from draw 1: bits 0 to 5, so none of those that later calls delete
unfoldable pub replaced : ℕ → ℕ
replaced d = d % 64

-- calls 0, 1 and 2, from draw 1: bits 6 and 7 choose the token of the replaced block after which donor 0 goes, "a change inside a replaced node"; bits 8
-- and 9 the token, bits 10 to 15 its block, after which donor 1 goes
unfoldable pub first_calls : ℕ → List Call
first_calls d =
    call (rule_drawn d) 2 (block (replaced d)) (replacement ∷ [])
    ∷ call (rule_drawn d) 1 (block_token (replaced d) (d / 64 % 4)) (donor 0 ∷ [])
    ∷ call (rule_drawn d) 1 (block_token (d / 1024) (d / 256 % 4)) (donor 1 ∷ [])
    ∷ []

-- what the draw of the place chooses beside the block: bits 6 and 7 a token of it, bits 8 to 11 a donor, bits 12 to 15 another
unfoldable pub token_drawn : ℕ → ℕ
token_drawn place = place / 64 % 4

unfoldable pub donor_drawn : ℕ → ℕ
donor_drawn place = donor (place / 256 % 16)

unfoldable pub other_drawn : ℕ → ℕ
other_drawn place = donor (place / 4096)

-- a call in block b, by bits 0 to 2 of what: 0 first child of the block; 1, 2 after the token; 3 two donors after the separator before the block; 4, 5 the
-- token replaced; 6 the token deleted; 7 one donor after the separator or, of a later call, the block deleted
unfoldable pub free_call : Bool → ℕ → ℕ → ℕ → Call
free_call later b what place =
    let o = what % 8 in
    let rule = rule_drawn what in
    let t = block_token b (token_drawn place) in
    let x = donor_drawn place in
    cond (eqb o 0) (call rule 0 (block b) (x ∷ []))
    (cond (ltb o 3) (call rule 1 t (x ∷ []))
    (cond (eqb o 3) (call rule 1 (separator b) (x ∷ other_drawn place ∷ []))
    (cond (ltb o 6) (call rule 2 t (x ∷ []))
    (cond (eqb o 6) (call rule 3 t [])
    (cond later (call rule 3 (block b) []) (call rule 1 (separator b) (x ∷ [])))))))

-- the only call in block b, by bit 0 of what: 0 the token replaced by two donors, 1 the run from token 0 to the token replaced by a donor
unfoldable pub own_call : ℕ → ℕ → ℕ → Call
own_call b what place =
    let rule = rule_drawn what in
    let t = block_token b (token_drawn place) in
    let x = donor_drawn place in
    cond (eqb (what % 2) 0) (call rule 4 t (x ∷ other_drawn place ∷ [])) (call rule 5 (block_token b 0) (t ∷ x ∷ []))

-- the start of a further editor, which has no rule
abbrev pub further_editor : Call
further_editor = call 0 6 0 []

-- call i from 3 on, from two draws: calls to 31 in blocks 0 to 63, call 32 a further editor's start, calls to 63 in blocks 64 to 95, each later call in a
-- block of its own, 96 to 127
unfoldable pub call_at : ℕ → ℕ → ℕ → Call
call_at i what place =
    cond (ltb i 32) (free_call false (place % 64) what place)
    (cond (eqb i 32) further_editor
    (cond (ltb i 64) (free_call true (64 + place % 32) what place) (own_call (i + 32) what place)))

-- n calls from call i on, from what the generator holds
unfoldable pub calls_from : ℕ → ℕ → ℕ → List Call
calls_from i zero s = []
calls_from i (suc n) s = call_at i (drawn s) (drawn (next s)) ∷ calls_from (suc i) n (next (next s))

-- "a batch of at least 64 calls": 96; draw 1 gives calls 0 to 2, draws 2i − 4 and 2i − 3 call i
unfoldable pub calls : ℕ → List Call
calls start = first_calls (drawn start) ++ calls_from 3 93 (next start)

-- ── The load ────────────────────────────────────────────────────────────────────────────────────────────────

-- the elements of notes 1 to 8, in tree 0: draws 188 to 195
unfoldable pub noted : ℕ → List ℕ
noted start = map (λ d. d % of_tree0) (draws 8 (after 187 start))

-- THE LOAD of a starting number. The replaced block is mapped to the copy.
unfoldable pub load : ℕ → Lists
load start =
    let cs = calls start in
    record {
      trees = 3;
      kinds = along kind_at 0 elements;
      measures = along measure_at 0 elements;
      text = along byte_at 0 660;
      operations = map (λ c. c.operation) cs;
      counts = map (λ c. length c.listed) cs;
      rules = map (λ c. c.rule) cs;
      targets = map (λ c. c.target) cs;
      listed = flat_map (λ c. c.listed) cs;
      inputs = block (replaced (drawn start)) ∷ [];
      outputs = copy ∷ [];
      noted = noted start;
      numbers = along (λ n. n) 1 8;
    }
