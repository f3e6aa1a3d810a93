-- Document 01's examples, of every call that keeps its promise: the definition's table, carried over.
-- Assumes nothing.
use Rattle.std.specs.Prelude.{◌≡◌, refl, false, ℕ, leb, length, take, drop}
use Rattle.std.proofs.Common.{sym, ap, ◌∙◌, take_at, drop_at}
use mathlib.Core.List.{List, [], ◌∷◌, map, head-eq_of_cons-eq, tail-eq_of_cons-eq}
use Rattle.std.proofs.Math.Option.{Option}
use Prim.Native.String.{String}
use Rattle.orders.specs.Lists.{any, All}
use Rattle.orders.specs.ListLaws.{none_passes}
use Rattle.definition.specs.Basics.{Answer, refused, gives, ◌>>=◌}
use Rattle.definition.specs.Choices.{Choices, by_default, chosen}
use Rattle.definition.specs.Finishing.{Result, encoded}
use Rattle.definition.specs.Answers.{edit}
use Rattle.definition.specs.FindElement.{find_element}
use Rattle.definition.specs.Printed.{ascii, printed}
use Rattle.definition.specs.Computing.{computed}
use Rattle.definition.specs.Examples.{Told, in_lists, in_bytes, Short, short, marked, further, told, answered, printed_case, printed_lines, with_notes, with_notes_lines, examples}
use Rattle.definition.specs.EdgeExamples.{edge, closing_call}
use Rattle.definition_laws.specs.Answers.{refused_inj, gives_inj, refused_gives}
use Rattle.result_laws.proofs.Worded.{Bytes, take_bytes, tested_bytes}
use Rattle.result_laws.specs.Decoded.{decoded}
use Rattle.promises_read.specs.Answered.{Leaves, answer_in, edit_answered, find_answered}
use Rattle.promises_read.specs.Printing.{printed_run}
use Rattle.promises_read.specs.Examples.{Tells, RunsAs, Runs, beyond_bytes, Prints, FindsTold, found_in, RunsBy, closings}

-- ── What a call leaves of what is told ──────────────────────────────────────────────────────────────────────

-- A law over any batch and what is told of its answer.
pub told_run : (h : Choices) (b : List ℕ) (s : Short) → Bytes b → short (edit h b) ≡ s → RunsAs h b s
unfolding short answer_in ◌>>=◌
told_run h b s y t held work r holds left p l = let z = edit_answered h b held work r holds left p y l in go (edit h b) s t z.leaves z.read
  where
    go : (o : Answer Result) (s : Short) → short o ≡ s → Leaves o held r holds → answer_in r holds ≡ o → Tells s held r holds
    go (refused k) (refused j) t i q = (i.0 ∙ ap refused (refused_inj t), i.1)
    go (refused k) (gives s) t i q = refused_gives t
    go (gives R) (refused j) t i q = refused_gives (sym t)
    go (gives R) (gives s) t i q =
        let there : decoded holds ≡ R = gives_inj (ap (λ x. answer_in x holds) (sym i.0) ∙ q) in
        let n = length (encoded R) in
        record {
          size = n;
          answer = i.0;
          told = ap (λ x. short (gives x)) there ∙ t;
          front = ap (take n) i.1 ∙ (take_at (encoded R) (drop n held) n refl ∙ ap encoded (sym there));
          beyond = ap (drop n) i.1 ∙ drop_at (encoded R) (drop n held) n refl;
        }

-- ── The tables ──────────────────────────────────────────────────────────────────────────────────────────────

-- A table that the definition answers is answered by every call that keeps its promise.
pub table_run : (es : List (Told × Short)) → beyond_bytes es ≡ false → answered es ≡ told es → All Runs es
table_run es b e = go es (none_passes (λ m. any (leb 256) (in_bytes m.0)) es b) e
  where
    go : (es : List (Told × Short)) → All (λ m. any (leb 256) (in_bytes m.0) ≡ false) es → answered es ≡ told es → All Runs es
    go [] h e = tt
    go (m ∷ es) h e = (told_run by_default (in_bytes m.0) m.1 (tested_bytes (in_bytes m.0) h.0) (head-eq_of_cons-eq e), go es h.1 (tail-eq_of_cons-eq e))

-- the default is a choice
pub default_chosen : chosen by_default ≡ gives tt
unfolding computed
default_chosen = refl

-- what the definition prints
pub lines_run : (b : Told) (lines : String) → any (leb 256) (in_bytes b) ≡ false → printed by_default (in_bytes b) ≡ ascii lines → Prints (b, lines)
lines_run b lines h e held work r holds left p k l =
    let input = in_bytes b in
    printed_run by_default input held work r holds left p (take_bytes 65536 input (tested_bytes input h)) default_chosen k l ∙ e

-- what the definition finds
pub finds_run : (b : List ℕ) (ms : List (ℕ × Answer (Option ℕ))) → map (find_element by_default [] b) (map (λ m. m.0) ms) ≡ map (λ m. m.1) ms → All (FindsTold b) ms
finds_run b [] e = tt
finds_run b (m ∷ ms) e = (λ work r left p h. find_answered by_default b m.0 work r left p default_chosen h ∙ head-eq_of_cons-eq e, finds_run b ms (tail-eq_of_cons-eq e))

-- the batches of the tables are of bytes
in_bytes_lem : (beyond_bytes marked ≡ false) × (beyond_bytes further ≡ false) × (any (leb 256) (in_bytes printed_case) ≡ false) × (any (leb 256) (in_bytes with_notes) ≡ false)
unfolding computed in_lists in_bytes
in_bytes_lem = (refl, refl, refl, refl)

-- THE EXAMPLES of document 01, for the code: each marked and each further example becomes what is told of it, the printed case and `with_notes` print their
-- lines, and `find_element` finds what is told.
pub examples_run : All Runs marked × All Runs further × All Prints ((printed_case, printed_lines) ∷ (with_notes, with_notes_lines) ∷ []) × All (FindsTold (in_bytes with_notes)) found_in
examples_run = (
  table_run marked in_bytes_lem.0 examples.0,
  table_run further in_bytes_lem.1 examples.3,
  (lines_run printed_case printed_lines in_bytes_lem.2 examples.2, (lines_run with_notes with_notes_lines in_bytes_lem.3 examples.4, tt)),
  finds_run (in_bytes with_notes) found_in examples.7,
)

-- ── Either edge rule ────────────────────────────────────────────────────────────────────────────────────────

-- what the definition answers by each rule
pub rules_run : (b : Told) (ms : List (ℕ × Short)) → any (leb 256) (in_bytes b) ≡ false → map (λ m. short (edit (edge m.0) (in_bytes b))) ms ≡ map (λ m. m.1) ms → All (RunsBy b) ms
rules_run b [] y e = tt
rules_run b (m ∷ ms) y e = (told_run (edge m.0) (in_bytes b) m.1 (tested_bytes (in_bytes b) y) (head-eq_of_cons-eq e), rules_run b ms y (tail-eq_of_cons-eq e))

-- THE CLOSING CALL (`definition/specs/EdgeExamples`), by either edge rule
pub closing_call_run : All (RunsBy closing_call) closings
unfolding computed in_lists in_bytes short
closing_call_run = rules_run closing_call closings refl refl
