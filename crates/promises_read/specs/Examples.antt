-- Document 01's examples, of every call that keeps its promise: the definition's table, carried over.
-- Assumes nothing.
use Rattle.std.specs.Prelude.{◌≡◌, Bool, false, ℕ, leb, length, take, drop}
use mathlib.Core.List.{List, [], ◌∷◌, ◌++◌, map}
use Rattle.std.proofs.Math.Option.{Option, none, some}
use Prim.Native.String.{String}
use Rattle.orders.specs.Lists.{any}
use Rattle.orders.specs.Tree.{Tree, label, measure, preorder, text}
use Rattle.definition.specs.Basics.{Answer, refused, gives}
use Rattle.definition.specs.Choices.{Choices, by_default}
use Rattle.definition.specs.Finishing.{encoded}
use Rattle.definition.specs.Answers.{too_short}
use Rattle.definition.specs.Printed.{ascii, print}
use Rattle.definition.specs.Examples.{Told, in_bytes, node_of, token_of, Summary, Short, short, told}
use Rattle.definition.specs.EdgeExamples.{edge}
use Rattle.result_laws.specs.Decoded.{decoded}
use Rattle.promises.specs.Slices.{needed, lengths}
use Rattle.promises.specs.Promises.{Edits, Finds}
use Rattle.promises_read.specs.Answered.{Lent, answer_in}

-- a result of which s is told is read at the front of the slice, in its bytes, and beyond them stands what was held
pub record ReadAs (s : Summary) (held : List ℕ) (r : Answer ℕ) (holds : List ℕ) : Type 0 where
  pub size : ℕ
  pub answer : r ≡ gives size
  pub told : short (gives (decoded holds)) ≡ gives s
  pub front : take size holds ≡ encoded (decoded holds)
  pub beyond : drop size holds ≡ drop size held

-- a refusal that is told is the answer, and the slice holds all that it held
abbrev pub Tells : Short → List ℕ → Answer ℕ → List ℕ → Type 0
Tells (refused k) held r holds = (r ≡ refused k) × (holds ≡ held)
Tells (gives s) held r holds = ReadAs s held r holds

-- every call by the choice h on the batch b that keeps its promise leaves what is told
abbrev pub RunsAs : Choices → List ℕ → Short → Type 0
RunsAs h b s = (held : List ℕ) (work : List (List ℕ)) (r : Answer ℕ) (holds : List ℕ) (left : List (List ℕ)) → Edits h b held work r holds left → Lent h b held work → Tells s held r holds

-- every call by default on an example that keeps its promise leaves what is told of it
abbrev pub Runs : Told × Short → Type 0
Runs m = RunsAs by_default (in_bytes m.0) m.1

-- some batch of a table is not of bytes
abbrev pub beyond_bytes : List (Told × Short) → Bool
beyond_bytes es = any (λ m. any (leb 256) (in_bytes m.0)) es

-- every call by default on this input that keeps its promise, with a result slice of 65,536 bytes: what it leaves prints these lines
abbrev pub Prints : Told × String → Type 0
Prints m =
    (held : List ℕ) (work : List (List ℕ)) (r : Answer ℕ) (holds : List ℕ) (left : List (List ℕ)) → Edits by_default (take 65536 (in_bytes m.0)) held work r holds left → too_short (lengths needed work) ≡ false → length held ≡ 65536
    → print (answer_in r holds) ≡ ascii m.1

-- every call of `find_element` by default on this batch that keeps its promise finds as told
abbrev pub FindsTold : List ℕ → ℕ × Answer (Option ℕ) → Type 0
FindsTold b m = (work : List (List ℕ)) (r : Answer (Option ℕ)) (left : List (List ℕ)) → Finds by_default b m.0 work r left → too_short (lengths needed work) ≡ false → r ≡ m.1

-- of `with_notes`: X (element 1) is found as X' (2), and nothing for the token a or for a number of E
abbrev pub found_in : List (ℕ × Answer (Option ℕ))
found_in = (1, gives (some 2)) ∷ (2, gives none) ∷ (11, gives none) ∷ []

-- of a tree: its kind words, measures and text
abbrev pub shows : Tree ℕ → List ℕ × List ℕ × List ℕ
shows t = (map label (preorder t), map measure (preorder t), text t)

-- root(block(s), .., u)
abbrev pub after_block : List (Tree ℕ) → Tree ℕ
after_block new = node_of 1 (node_of 2 (node_of 3 (token_of 4 "s" ∷ []) ∷ []) ∷ (new ++ (token_of 4 "u" ∷ [])))

-- every call by this edge rule on this batch that keeps its promise leaves what is told
abbrev pub RunsBy : Told → ℕ × Short → Type 0
RunsBy b m = RunsAs (edge m.0) (in_bytes b) m.1

-- by rule 0 the call is discarded with the block's last statement, by rule 1 it stands after the block
abbrev pub closings : List (ℕ × Short)
closings = (0, gives (shows (after_block []), [], 1)) ∷ (1, gives (shows (after_block (token_of 6 "c" ∷ [])), 4 ∷ [], 0)) ∷ []
