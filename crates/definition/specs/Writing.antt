-- The batch, laid out from lists of trees, calls, mappings and notes, and read as such lists: document 02, Note 2; refusals 14 and 15.
-- Assumes nothing.
use Rattle.std.specs.Prelude.{Bool, not, ◌||◌, List, [], ◌∷◌, ◌++◌, map, ℕ, length, leb, ltb, eqb}
use Rattle.definition.specs.Basics.{Answer, gives, ◌>>=◌, refuse, is_refused, any}
use Rattle.definition.specs.Words.{written}
use Rattle.definition.specs.Batch.{Sizes, Batch, beyond, batch}
use Rattle.definition.specs.Refusals.{call_word, operation_of, count_of, rule_of, accepted}

-- ── The batch laid out ──────────────────────────────────────────────────────────────────────────────────────

-- "the trees, calls, mappings and notes as lists"
pub record Lists : Type 0 where
  -- how many trees there are; in preorder, tree after tree, the kind words and the measures; the text
  pub trees : ℕ
  pub kinds : List ℕ
  pub measures : List ℕ
  pub text : List ℕ
  -- of each call its operation, how many elements it lists, its rule number, and its target; the listed elements, call after call
  pub operations : List ℕ
  pub counts : List ℕ
  pub rules : List ℕ
  pub targets : List ℕ
  pub listed : List ℕ
  -- of each mapping its input and its output; of each note its element and its number
  pub inputs : List ℕ
  pub outputs : List ℕ
  pub noted : List ℕ
  pub numbers : List ℕ

-- how much of each there is
unfoldable pub sizes_of : Lists → Sizes
sizes_of l = record {
  trees = l.trees;
  elements = length l.kinds;
  text = length l.text;
  calls = length l.operations;
  listed = length l.listed;
  mappings = length l.inputs;
  notes = length l.noted;
}

-- "Seven sizes come first"
unfoldable pub seven_sizes : Sizes → List ℕ
seven_sizes s = s.trees ∷ s.elements ∷ s.text ∷ s.calls ∷ s.listed ∷ s.mappings ∷ s.notes ∷ []

-- each call's word
unfoldable pub call_words : List ℕ → List ℕ → List ℕ → List ℕ
call_words [] counts rules = []
call_words (o ∷ operations) [] rules = []
call_words (o ∷ operations) (n ∷ counts) [] = []
call_words (o ∷ operations) (n ∷ counts) (r ∷ rules) = call_word o n r ∷ call_words operations counts rules

-- "Then parallel arrays: kinds and measures (E each); call words and targets (C); the listed elements (L); mapping inputs and outputs (M);
-- note elements and note numbers (A). The B text bytes, in element order, end it."
unfoldable pub laid_out : Lists → List ℕ
laid_out l =
    written (seven_sizes (sizes_of l))
    ++ (written l.kinds
    ++ (written l.measures
    ++ (written (call_words l.operations l.counts l.rules)
    ++ (written l.targets
    ++ (written l.listed
    ++ (written l.inputs
    ++ (written l.outputs
    ++ (written l.noted
    ++ (written l.numbers
    ++ l.text)))))))))

-- ── The writer ──────────────────────────────────────────────────────────────────────────────────────────────

-- two lists differ in length
unfoldable pub differ : List ℕ → List ℕ → Bool
differ l m = not (eqb (length l) (length m))

-- "lists in step that differ in length break 4"
unfoldable pub out_of_step : Lists → Bool
out_of_step l =
    differ l.kinds l.measures
    || differ l.operations l.counts
    || differ l.operations l.rules
    || differ l.operations l.targets
    || differ l.inputs l.outputs
    || differ l.noted l.numbers

-- an operation, a count or a rule number that its part of the call word cannot hold: laid out all the same, it would be read as another.
-- "The writer takes the numbers too, above 4,095 under 14." (Note 8)
unfoldable pub unfitting : Lists → Bool
unfitting l = any (leb 256) l.operations || any (leb 4096) l.counts || any (leb 4096) l.rules

-- wrong before anything is laid out
unfoldable pub unlayable : Lists → Bool
unlayable l = out_of_step l || beyond (sizes_of l) || unfitting l

-- 14: "the lists would be refused under 3 to 7", 16 among them: "The writer obeys it too, under 14" (Note 3)
unfoldable pub wrong_lists : Lists → Bool
wrong_lists l = unlayable l || is_refused (accepted (laid_out l))

-- THE WRITER, into a destination of `room` bytes. 15: "the destination is too short, checked after 14"
unfoldable pub write : Lists → ℕ → Answer (List ℕ)
write l room = do
  _ ← refuse 14 (wrong_lists l)
  _ ← refuse 15 (ltb room (length (laid_out l)))
  gives (laid_out l)

-- ── The batch read as lists ─────────────────────────────────────────────────────────────────────────────────

-- the lists that a batch's arrays tell
unfoldable pub lists_of : Batch → Lists
lists_of b = record {
  trees = b.trees;
  kinds = b.kinds;
  measures = b.measures;
  text = b.text;
  operations = map operation_of b.calls;
  counts = map count_of b.calls;
  rules = map rule_of b.calls;
  targets = b.targets;
  listed = b.listed;
  inputs = b.inputs;
  outputs = b.outputs;
  noted = b.noted;
  numbers = b.numbers;
}

-- "read as the same lists": the lists of a batch that passes lines 2 to 7
unfoldable pub lists : List ℕ → Answer Lists
lists bytes = do
  _ ← accepted bytes
  b ← batch bytes
  gives (lists_of b)
