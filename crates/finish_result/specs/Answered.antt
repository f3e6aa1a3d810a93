-- The answer, 13 or the length of the bytes, and what the lent buffer holds then.
-- Assumes nothing.
use Rattle.std.specs.Prelude.{◌≡◌, refl, List, ℕ, ◌≤◌, ◌<◌, length, Result as Returned, Ok, Err}
use Rattle.std.proofs.Common.{sym, ap, ◌∙◌, lt-ltb, le-ltb}
use Rattle.std.proofs.Math.Seq.{paste}
use Rattle.orders.specs.Tree.{forest, elements_of}
use Rattle.definition.specs.Basics.{Answer, refused, gives, ◌>>=◌, refuse, keep}
use Rattle.definition.specs.Choices.{Choices}
use Rattle.definition.specs.Planning.{Planned, is_discarded}
use Rattle.definition.specs.Running.{World}
use Rattle.definition.specs.Finishing.{new_tree, Result, result, encoded, fitting}
use Rattle.definition.specs.Answers.{edit, with_choices, edited}
use Rattle.definition_laws.specs.Held.{Holds}
use Rattle.rows_syntax_node.specs.Promises.{Part}
use Rattle.run_model.specs.Store.{HeldNote, HeldChanged, Store, store}
use Rattle.run_tree_store.specs.Stored.{stored}
use Rattle.finish_model.specs.Finished.{first_tree, result_of}
use Rattle.finish_model.proofs.Result.{result_rows}
use Rattle.finish_arrays.specs.Sweep.{Counts}
use Rattle.refusals.specs.Numbers.{number, answered}
use Rattle.refusals.specs.declared.Refusal.{Refusal}
use Rattle.refusals.specs.declared.Refusal.TheVariants.{ShortResult}

-- the paper's number for the refusal, and the length of the bytes
abbrev pub length_of : Returned ℕ Refusal → Answer ℕ
length_of a = answered a

-- the result as bytes, in a buffer of `room` bytes, or 13
unfoldable pub fitted : ℕ → Result → Answer (List ℕ)
fitted room r = fitting room r >>= λ r. gives (encoded r)

-- a buffer with an answer's bytes over its front, and beyond them what it held; all that it held on a refusal
unfoldable pub over_front : List ℕ → Answer (List ℕ) → List ℕ
over_front d (refused n) = d
over_front d (gives b) = paste d 0 b (length b)

-- the answer a, where the buffer held d and then holds `out`
pub record Answered (d : List ℕ) (r : Result) (out : List ℕ) (a : Returned ℕ Refusal) : Type 0 where
  pub answer : length_of a ≡ (fitted (length d) r >>= λ b. gives (length b))
  pub result : out ≡ over_front d (fitted (length d) r)

pub fits : (room : ℕ) (r : Result) → length (encoded r) ≤ room → fitted room r ≡ gives (encoded r)
unfolding fitted fitting refuse ◌>>=◌
fits room r h = rw (le-ltb room (length (encoded r)) h)

pub short : (room : ℕ) (r : Result) → room < length (encoded r) → fitted room r ≡ refused 13
unfolding fitted fitting refuse ◌>>=◌
short room r h = rw (lt-ltb room (length (encoded r)) h)

pub answered_short : {d : List ℕ} {r : Result} → length d < length (encoded r) → Answered d r d (Err ShortResult)
unfolding answered number over_front ◌>>=◌
answered_short {d} {r} h = record { answer = rw (short (length d) r h); result = rw (short (length d) r h) }

pub answered_bytes : {d : List ℕ} {r : Result} {n : ℕ} {out : List ℕ} → n ≡ length (encoded r) → length (encoded r) ≤ length d → out ≡ paste d 0 (encoded r) (length (encoded r)) → Answered d r out (Ok n)
unfolding answered number over_front ◌>>=◌
answered_bytes {d} {r} {n} {out} e h w = record { answer = rw (fits (length d) r h, e); result = w ∙ rw (fits (length d) r h) }

-- ── The definition's ────────────────────────────────────────────────────────────────────────────────────────

-- the edit's bytes are what fits
pub edited_fitted : (h : Choices) (work : List (ℕ × ℕ)) (bytes : List ℕ) (room : ℕ) → edited h work bytes room ≡ with_choices h work (edit h bytes >>= fitted room)
unfolding edited fitted
edited_fitted h work bytes room = refl

-- what is answered from what the run leaves is the answer of the definition's result
pub answered_result : (ps : List Planned) (climbs : ℕ) (w : World) {s : Store} {d out : List ℕ} {a : Returned ℕ Refusal} → Holds w → store w ≡ s
    → Answered d (result_of (length (keep (λ p. is_discarded p.fate) ps)) climbs s) out a → Answered d (result ps climbs w) out a
answered_result ps climbs w h e v = rw (← result_rows ps climbs w h, e) v

-- The number of reads that the sweep returns over the rows of tree 0, as the run leaves them, is the new tree's count of elements.
pub reads_new_tree : (w : World) (text marks : List ℕ) (notes : List HeldNote) (changed : List HeldChanged) {rows : List ℕ} {n : ℕ} {tree : List ℕ} {reads : ℕ} → store w ≡ stored text n rows marks notes changed → Part rows n 1 tree → Counts tree reads
    → reads ≡ elements_of (forest (new_tree w))
unfolding store stored first_tree
reads_new_tree w text marks notes changed e p c = c.elements text w (p.told text ∙ ap (λ s. first_tree s.rows) (sym e))
