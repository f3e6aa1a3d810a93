-- What the calls on a series promise: the answer, and what each lent slice holds then, from what was lent.
-- Assumes nothing.
use Rattle.std.specs.Prelude.{◌≡◌, Result, Err, false, ℕ, ◌≤◌, ◌<◌, length, replicate}
use Rattle.std.proofs.Common.{sym, ap, ◌∙◌, subst, lt-ltb, le-ltb}
use mathlib.Core.List.{List, [], ◌∷◌, zip}
use Rattle.definition.specs.Basics.{Answer, gives, ◌>>=◌, refuse, any}
use Rattle.definition.specs.Choices.{Choices}
use Rattle.definition.specs.Finishing.{encoded}
use Rattle.definition.specs.Answers.{too_short, with_work}
use Rattle.promises.specs.Slices
use Rattle.promises.specs.Slices.{needed, lengths, zeros, zeroed}
use Rattle.promises.specs.Promises as promises
use Rattle.refusals.specs.Numbers.{number, answered}
use Rattle.refusals.specs.declared.Refusal.{Refusal}
use Rattle.refusals.specs.declared.Refusal.TheVariants.{ShortWork}
use Rattle.edit_perform.specs.Stops.{Unplanned}
use Rattle.edit_perform.specs.declared.Ended.{Ended}
use Rattle.series_check.specs.Judged.{judged}
use Rattle.series_laws.specs.Memory.{most_at_start}
use Rattle.series_laws.specs.Follow.{Step}
use Rattle.series_laws.specs.Lent.{Lent, lent, started, Call, answers, leaves}
use Rattle.series_leave.specs.Leaving.{lent_of}
use Rattle.series_follow.specs.Performing.{reached_on, afterwards, PerformsOn}
use Rattle.series_answer.specs.Telling.{TellsOn, result_bytes}
use Rattle.series_answer.specs.Ends.{ToAnswer}

-- "its length in docs/": rows
unfoldable pub start_needs : List ℕ
start_needs = 12288 ∷ []

-- THE PROMISE of `start`, from the memory and the work slice as they were lent; the memory is lent to be read
pub record Starts (l : Lent) (rows : List ℕ) (r : Result (Unit {0}) Refusal) (left : List ℕ) : Type 0 where
  -- that it may begin, or the refusal
  pub answer : answered r ≡ judged (started (lengths start_needs (rows ∷ [])) l)
  -- work slices end as zeros
  pub zeros : left ≡ zeros rows

-- 1 comes first
pub start_short : (l : Lent) (rows : List ℕ) → length rows < 12288 → answered (Err ShortWork) ≡ judged (started (lengths start_needs (rows ∷ [])) l)
unfolding started with_work too_short lengths start_needs zip any refuse ◌>>=◌ judged answered number
start_short l rows h = rw (lt-ltb (length rows) 12288 h)

pub start_long : (l : Lent) (rows : List ℕ) (o : Answer (Unit {0})) → 12288 ≤ length rows → o ≡ judged (lent most_at_start l) → o ≡ judged (started (lengths start_needs (rows ∷ [])) l)
unfolding started with_work too_short lengths start_needs zip any refuse ◌>>=◌
start_long l rows o h e = e ∙ sym (ap judged (rw (le-ltb (length rows) 12288 h)))

-- the work slice is cleared whatever was told
pub start_told : {l : Lent} {rows out : List ℕ} {r : Result (Unit {0}) Refusal} {n : ℕ} → answered r ≡ judged (started (lengths start_needs (rows ∷ [])) l) → n ≡ length rows → out ≡ replicate n 0 → Starts l rows r out
unfolding Slices.zeros
start_told a s z = record { answer = a; zeros = z ∙ ap (λ (n : ℕ). replicate n 0) s }

-- ── follow ──────────────────────────────────────────────────────────────────────────────────────────────────

-- what is lent to a later call beside the memory
abbrev pub call_of : Choices → List ℕ → List ℕ → List (List ℕ) → Call
call_of h b held work = record { choices = h; work = lengths needed work; batch = b; room = length held }

-- THE PROMISE of `follow`, from the choices h, the batch b, the memory l, the result slice and the work slices as they were lent: by `answers`, of which a `series` is made
pub record Follows (h : Choices) (b : List ℕ) (l : Lent) (held : List ℕ) (work : List (List ℕ)) (r : Result ℕ Refusal) (holds : List ℕ) (after : Lent) (left : List (List ℕ)) : Type 0 where
  -- how many bytes the result has, or the refusal
  pub answer : answered r ≡ (answers (call_of h b held work) l >>= λ s. gives (length (encoded s.result)))
  -- "The result slice holds the finished answer and beyond it what it held, or on refusal all that it held."
  pub result : holds ≡ promises.left_in held (result_bytes (answers (call_of h b held work) l))
  -- "Each accepted batch moves the bookmarks by the path rule": both slices of the memory; refused, all that they held
  pub memory : after ≡ leaves l (answers (call_of h b held work) l)
  -- "Work slices end as zeros."
  pub zeros : left ≡ zeroed work

-- where the run has ended, the call can be answered
pub follow_answers : {h : Choices} {work : List (List ℕ)} {tree bookmarks b t s rows notes changed marks : List ℕ} {p : Result Ended Unplanned} → PerformsOn h work (lent_of tree bookmarks) b t s rows notes changed marks p → (starts : List ℕ)
    → (too_short (lengths needed work) ≡ false → 12288 ≤ length starts) → ToAnswer h tree bookmarks b s rows notes changed marks starts p
follow_answers {t = t} P starts q = record { leaves = λ d e. record { table = t; ends = P.ends d e; room = q (P.long d e) } }

-- what is told, and then cleared, is what is promised
pub follow_told : {h : Choices} {work : List (List ℕ)} {l : Lent} {b t s rows notes changed marks held holds : List ℕ} {after : Lent} {left : List (List ℕ)} {p : Result Ended Unplanned} {r : Result ℕ Refusal}
    → PerformsOn h work l b t s rows notes changed marks p → TellsOn (afterwards p (reached_on h l b (length held))) l held r holds after → left ≡ zeroed work → Follows h b l held work r holds after left
unfolding answers
follow_told {h} {work} {l} {b} {held = held} {holds = holds} {after = after} {r = r} P T z =
    let A = subst (λ (o : Answer Step). TellsOn o l held r holds after) (P.answers (length held)) T in
    record { answer = A.answer; result = A.result; memory = A.memory; zeros = z }
