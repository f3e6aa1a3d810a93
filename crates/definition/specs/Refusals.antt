-- Refused, in checking order: lines 2 to 7, with 16 right after 6. Wherever a batch passes lines 2 to 7 "it has passed 16 as well" (document 02, Note 3).
-- Assumes nothing.
use Rattle.std.specs.Prelude.{Bool, true, false, cond, not, ◌&&◌, ◌||◌, ℕ, ◌+◌, ◌-◌, ◌*◌, ◌/◌, ◌%◌, length, take, drop, leb, ltb, eqb}
use mathlib.Core.List.{List, [], ◌∷◌, head_d, zip}
use Rattle.std.proofs.Math.Option.{Option, none, some, map}
use Rattle.orders.specs.Tree.{Tree}
use Rattle.definition.specs.Basics.{Answer, gives, ◌>>=◌, refuse, or_refuse, any, among}
use Rattle.definition.specs.Batch.{batch}
use Rattle.definition.specs.Elements.{Table, node?, root?, parent, child, spelled, table}

-- ── Calls ───────────────────────────────────────────────────────────────────────────────────────────────────

-- "A call word is operation + 256 × listed count." "Each call carries the number of the rule that queued it: bits 20 to 31 of the call word, 0 for none; the count
-- narrows to bits 8 to 19." (document 02, Note 8)
unfoldable pub call_word : ℕ → ℕ → ℕ → ℕ
call_word operation count rule = operation + 256 * count + 1048576 * rule

-- its operation
unfoldable pub operation_of : ℕ → ℕ
operation_of word = word % 256

-- its listed count: "bits 8 to 19"
unfoldable pub count_of : ℕ → ℕ
count_of word = word / 256 % 4096

-- its rule number: "bits 20 to 31"
unfoldable pub rule_of : ℕ → ℕ
rule_of word = word / 1048576 % 4096

-- a call as the batch has it
pub record Call : Type 0 where
  pub operation : ℕ
  pub target : ℕ
  pub listed : List ℕ
  pub rule : ℕ

-- the call of a call word, with its target and the elements that it lists
abbrev pub call_of : ℕ → ℕ → List ℕ → Call
call_of word target listed = record { operation = operation_of word; target = target; listed = listed; rule = rule_of word }

-- from call words with their targets, and the listed elements: each call takes its count of them; none if "the counts do not add up to L"
unfoldable pub calls : List (ℕ × ℕ) → List ℕ → Option (List Call)
calls [] [] = some []
calls [] (x ∷ l) = none
calls (c ∷ cs) l =
    let n = count_of c.0 in
    let rest = calls cs (drop n l) in
    cond (leb n (length l)) (map (λ r. call_of c.0 c.1 (take n l) ∷ r) rest) none

-- "3: delete, nothing listed"; a 6 has "count 0"; 2 is "by one element"; 5 lists the run's end; "Insertions and 4 may list none"
unfoldable pub wrong_count : ℕ → ℕ → Bool
wrong_count op n = (among (3 ∷ 6 ∷ []) op && ltb 0 n) || (eqb op 2 && not (eqb n 1)) || (eqb op 5 && eqb n 0)

-- "Make 41 the most a call may list" (document 02, Note 3)
abbrev pub most_listed : ℕ
most_listed = 41

-- 16, of an operation that lists n elements: "a call lists more", "a run's end element not counted"
unfoldable pub too_many : ℕ → ℕ → Bool
too_many op n = ltb most_listed (cond (eqb op 5) (n - 1) n)

-- 16, of one call
unfoldable pub lists_too_many : Call → Bool
lists_too_many c = too_many c.operation (length c.listed)

-- 6: "Operation 6 must carry 0, or line 6 applies." (document 02, Note 8)
unfoldable pub ruled_start : ℕ → ℕ → Bool
ruled_start op rule = eqb op 6 && not (eqb rule 0)

-- two parents are one (none is a root's)
unfoldable pub same_parent : Option ℕ → Option ℕ → Bool
same_parent none none = true
same_parent none (some q) = false
same_parent (some p) none = false
same_parent (some p) (some q) = eqb p q

module _ (T : Table) where
  -- "a run whose ends have different parents or are reversed"
  unfoldable pub wrong_run : ℕ → ℕ → Bool
  wrong_run from to = not (same_parent (parent T from) (parent T to)) || ltb (child T to) (child T from)

  -- 6, of where a call stands, by its operation, its target x and the first element y that it lists: "a token as parent, .. a root under 1, 3, 4 or 5, a token
  -- replacing a root, or a run whose ends have different parents or are reversed, a 6 whose target is not 0". Document 01's "a childless parent under 0" is gone:
  -- "A first-child position in a childless node is allowed, with an empty range at the node's own start, also after rewriting. Lines 6 and 9 of the refusals lose
  -- that condition." (document 02, Note 1)
  unfoldable pub misplaced : ℕ → ℕ → ℕ → Bool
  misplaced op x y =
      (eqb op 0 && not (node? T x))
      || (among (1 ∷ 3 ∷ 4 ∷ 5 ∷ []) op && root? T x)
      || (eqb op 2 && root? T x && not (node? T y))
      || (eqb op 5 && wrong_run x y)
      || (eqb op 6 && not (eqb x 0))

  -- 6, of one call: "an unknown operation, a wrong count, a number of E or more", or it is misplaced, or a further editor's start has a rule number
  unfoldable pub wrong_call : Call → Bool
  wrong_call c =
      ltb 6 c.operation
      || wrong_count c.operation (length c.listed)
      || any (λ e. leb (length T) e) (c.target ∷ c.listed)
      || misplaced c.operation c.target (head_d c.listed 0)
      || ruled_start c.operation c.rule

  -- 7, of one mapping (input and output): it "names no node or a root as output"
  unfoldable pub wrong_mapping : ℕ × ℕ → Bool
  wrong_mapping m = any (λ e. leb (length T) e || not (node? T e)) (m.0 ∷ m.1 ∷ []) || root? T m.1

  -- 7, of one note (element and number): it "names no element or is numbered 0"
  unfoldable pub wrong_note : ℕ × ℕ → Bool
  wrong_note n = leb (length T) n.0 || eqb n.1 0

-- ── The batch accepted ──────────────────────────────────────────────────────────────────────────────────────

-- what lines 2 to 7 and 16 accept: the trees, what is known of each element, the calls, the mappings (input, output), the notes (element, number)
pub record Accepted : Type 0 where
  pub trees : List (Tree ℕ)
  pub table : Table
  pub calls : List Call
  pub mappings : List (ℕ × ℕ)
  pub notes : List (ℕ × ℕ)

-- lines 2 to 7 in order. "16: a call lists more, checked right after 6": all of 6, of every call, comes first
unfoldable pub accepted : List ℕ → Answer Accepted
accepted bytes = do
  b ← batch bytes
  ts ← or_refuse 5 (spelled b)
  let T = table 0 0 ts
  cs ← or_refuse 6 (calls (zip b.calls b.targets) b.listed)
  _ ← refuse 6 (any (wrong_call T) cs)
  _ ← refuse 16 (any lists_too_many cs)
  let mappings = zip b.inputs b.outputs
  let notes = zip b.noted b.numbers
  _ ← refuse 7 (any (wrong_mapping T) mappings || any (wrong_note T) notes)
  gives (record { trees = ts; table = T; calls = cs; mappings = mappings; notes = notes })
