-- What the exported calls on a series return, as one number, and what they promise.
-- Assumes nothing.
use Rattle.std.specs.Prelude.{◌≡◌, refl, Result, Ok, Err, ◌||◌, List, [], ◌∷◌, ℕ, ◌≤◌, ltb, ℤ, pos, length, drop}
use Rattle.std.proofs.Common.{sym, ◌∙◌, arith}
use Rattle.std.proofs.Math.Path.{ap}
use Rattle.std.proofs.Math.Option.{Option, none, some}
use Rattle.std.proofs.Math.IntN.{neg_ℤ}
use mir.Syntax.{w64}
use mir.Val.{to_z, of_z}
use Rattle.definition.specs.Basics.{Answer, refused, gives, ◌>>=◌, refuse, or_refuse, any, among}
use Rattle.definition.specs.Choices.{Choices, chosen}
use Rattle.definition.specs.Words.{word}
use Rattle.definition.specs.Elements.{spelled}
use Rattle.definition.specs.Refusals.{accepted}
use Rattle.definition.specs.Writing.{differ}
use Rattle.definition.specs.Finishing.{encoded, fitting}
use Rattle.definition.specs.Answers.{too_short, with_work, with_choices, plan, performed, at_first, ran, edit}
use Rattle.definition_laws.proofs.Limits.{encoded_within}
use Rattle.promises.specs.Slices.{needed, lengths, zeros, zeroed}
use Rattle.promises.specs.Promises as promises
use Rattle.refusals.specs.Numbers.{number, answered as answered_by}
use Rattle.refusals.specs.declared.Refusal.{Refusal}
use Rattle.promises_read.specs.Refused.{By, batch_lines, plan_lines, step_lines, edit_numbers, by_then, by_refuse, by_more, by_number, accepted_by, plan_by, steps_by}
use Rattle.check_laws.specs.Check.{alone}
use Rattle.edit_numbers.specs.ReturnedBatch.{Few, length_number, length_read}
use Rattle.edit_numbers.specs.Returned.{returned}
use Rattle.series_laws.specs.Memory.{Memory, most_at_start, most_later, too_big, wrong_numbers, astray, held}
use Rattle.series_laws.specs.Follow.{Step, step}
use Rattle.series_laws.specs.Lent.{Lent, slots_in, beyond_slot, memory_in, cut_off, lent, started, fits, followed, answers, leaves}
use Rattle.series_laws.proofs.Passing.{step_done}
use Rattle.series_laws.proofs.Series.{answered}
use Rattle.series_check.specs.Judged.{number_of}
use Rattle.series_check.specs.Passed.{judged_ok, judged_err}
use Rattle.series_answer.specs.Telling.{result_bytes}
use Rattle.series.specs.Promises.{start_needs, Starts, call_of, Follows}

-- ── The promises ────────────────────────────────────────────────────────────────────────────────────────────

-- THE PROMISE of `syntax_series_start`, from the memory and the work slice as they were lent; the memory is lent to be read
pub record ReturnsStart (l : Lent) (rows : List ℕ) (r : ℤ) (left : List ℕ) : Type 0 where
  -- 0, or the refusal's number with a minus
  pub answer : r ≡ neg_ℤ (pos (number_of (started (lengths start_needs (rows ∷ [])) l)))
  -- work slices end as zeros
  pub zeros : left ≡ zeros rows

-- THE PROMISE of `syntax_series_follow`, from the choices h, the batch b, the memory l, the result slice and the work slices as they were lent
pub record ReturnsFollow (h : Choices) (b : List ℕ) (l : Lent) (held : List ℕ) (work : List (List ℕ)) (r : ℤ) (holds : List ℕ) (after : Lent) (left : List (List ℕ)) : Type 0 where
  -- the length of the answer, or the refusal's number with a minus
  pub answer : r ≡ returned (result_bytes (answers (call_of h b held work) l))
  -- "The result slice holds the finished answer and beyond it what it held, or on refusal all that it held."
  pub result : holds ≡ promises.left_in held (result_bytes (answers (call_of h b held work) l))
  -- the new tree and the bookmarks that survive; refused, all that the memory held
  pub memory : after ≡ leaves l (answers (call_of h b held work) l)
  -- "Work slices end as zeros."
  pub zeros : left ≡ zeroed work

-- ── By which numbers they refuse ────────────────────────────────────────────────────────────────────────────

-- THE NUMBERS that the first call can give
abbrev pub start_numbers : List ℕ
start_numbers = 1 ∷ 3 ∷ 4 ∷ 5 ∷ 20 ∷ 21 ∷ []

-- and a later one
abbrev pub follow_numbers : List ℕ
follow_numbers = 20 ∷ 21 ∷ 22 ∷ edit_numbers

by_spelled : {A : Type 0} (o : Option A) → By start_numbers (or_refuse 5 o)
unfolding or_refuse among any
by_spelled none = refl
by_spelled (some a) = tt

held_by : (most : ℕ) (m : Memory) → By start_numbers (held most m)
unfolding held among any
held_by most m =
    by_then start_numbers (refuse 3 (too_big most m.tree)) _ (by_refuse start_numbers 3 _ refl) λ u.
    by_then start_numbers (refuse 4 (differ m.tree.kinds m.tree.measures)) _ (by_refuse start_numbers 4 _ refl) λ u.
    by_then start_numbers (or_refuse 5 (spelled (alone m.tree))) _ (by_spelled (spelled (alone m.tree))) λ ts.
    by_then start_numbers (refuse 20 (wrong_numbers m.bookmarks)) _ (by_refuse start_numbers 20 _ refl) λ u.
    by_then start_numbers (refuse 21 (any (astray ts) m.bookmarks)) _ (by_refuse start_numbers 21 _ refl) λ u. tt

lent_by : (most : ℕ) (l : Lent) → By start_numbers (lent most l)
unfolding lent among any
lent_by most l =
    by_then start_numbers (refuse 4 (ltb (length l.tree) 8)) _ (by_refuse start_numbers 4 _ refl) λ u.
    by_then start_numbers (refuse 3 (ltb most (word l.tree) || ltb 16384 (word (drop 4 l.tree)))) _ (by_refuse start_numbers 3 _ refl) λ u.
    by_then start_numbers (refuse 4 (cut_off l)) _ (by_refuse start_numbers 4 _ refl) λ u.
    by_then start_numbers (held most (memory_in l)) _ (held_by most (memory_in l)) λ ts.
    by_then start_numbers (refuse 21 (any beyond_slot (slots_in l.bookmarks))) _ (by_refuse start_numbers 21 _ refl) λ u. tt

-- the first call gives no other
pub started_by : (work : List (ℕ × ℕ)) (l : Lent) → By start_numbers (started work l)
unfolding started with_work among any
started_by work l = by_then start_numbers (refuse 1 (too_short work)) _ (by_refuse start_numbers 1 _ refl) λ u. lent_by most_at_start l

step_by : (h : Choices) (m : Memory) (b : List ℕ) → By follow_numbers (step h m b)
unfolding step ran among any
step_by h m b =
    by_then follow_numbers (accepted b) _ (by_more batch_lines follow_numbers (accepted b) refl (accepted_by b)) λ a.
    by_then follow_numbers (refuse 22 _) _ (by_refuse follow_numbers 22 _ refl) λ u.
    by_then follow_numbers (plan h a) _ (by_more plan_lines follow_numbers (plan h a) refl (plan_by h a)) λ p.
    by_then follow_numbers (ran a p) _ (by_more step_lines follow_numbers (ran a p) refl (steps_by a.table (at_first a p) (at_first a p) (performed a p))) λ w. tt

fits_by : (room space : ℕ) (s : Step) → By follow_numbers (fits room space s)
unfolding fits fitting among any
fits_by room space s =
    by_then follow_numbers (fitting room s.result) _ (by_then follow_numbers (refuse 13 (ltb room (length (encoded s.result)))) _ (by_refuse follow_numbers 13 _ refl) λ u. tt) λ r.
    by_then follow_numbers (refuse 13 _) _ (by_refuse follow_numbers 13 _ refl) λ u. tt

-- nor does a later one
pub followed_by : (h : Choices) (work : List (ℕ × ℕ)) (l : Lent) (b : List ℕ) (room : ℕ) → By follow_numbers (followed h work l b room)
unfolding followed with_choices with_work chosen among any
followed_by h work l b room =
    by_then follow_numbers (chosen h) _ (by_then follow_numbers (refuse 17 (ltb 1 h.edge)) _ (by_refuse follow_numbers 17 _ refl) λ u. by_refuse follow_numbers 18 _ refl) λ u.
    by_then follow_numbers (refuse 1 (too_short work)) _ (by_refuse follow_numbers 1 _ refl) λ u.
    by_then follow_numbers (lent most_later l) _ (by_more start_numbers follow_numbers (lent most_later l) refl (lent_by most_later l)) λ m.
    by_then follow_numbers (step h m b) _ (step_by h m b) λ s.
    fits_by room (length l.tree) s

-- ── The first call ──────────────────────────────────────────────────────────────────────────────────────────

number_few : (o : Answer Memory) → By start_numbers o → number_of o ≤ 134217728
unfolding number_of any
number_few (refused n) h = omega (arith, (by_number {A = Memory} start_numbers 1 21 n (refused n) refl h refl).1)
number_few (gives a) h = omega arith

module _ {l : Lent} {rows left : List ℕ} {r : Result (Unit {0}) Refusal} (s : Starts l rows r left) where
  abbrev begun : Answer Memory
  begun = started (lengths start_needs (rows ∷ [])) l

  refused_by : (f : Refusal) → r ≡ Err f → number f ≡ number_of begun
  unfolding number_of answered_by
  refused_by f i = sym (rw (judged_err begun (number f) s.answer (ap answered_by i)) refl)

  pub start_small : (f : Refusal) → r ≡ Err f → Few (answered_by (Err f))
  unfolding Few answered_by
  start_small f i = rw (refused_by f i) (number_few begun (started_by (lengths start_needs (rows ∷ [])) l))

  -- it may begin
  pub start_begun : r ≡ Ok tt → ReturnsStart l rows (pos 0) left
  unfolding number_of answered_by
  start_begun i =
      let (m, q) = judged_ok begun s.answer (ap answered_by i) in
      record { answer = sym (ap (λ (k : ℕ). neg_ℤ (pos k)) (ap number_of q)); zeros = s.zeros }

  -- it may not
  pub start_returned : (f : Refusal) → r ≡ Err f → (z : ℤ) → z ≡ length_number (answered_by (Err f)) → ReturnsStart l rows (to_z w64 (of_z w64 z)) left
  unfolding length_number answered_by
  start_returned f i z q = record {
    answer = ap (λ (y : ℤ). to_z w64 (of_z w64 y)) q ∙ (length_read (answered_by (Err f)) (start_small f i) ∙ ap (λ (k : ℕ). neg_ℤ (pos k)) (refused_by f i));
    zeros = s.zeros;
  }

-- ── A later call ────────────────────────────────────────────────────────────────────────────────────────────

step_small : (o : Answer Step) → By follow_numbers o → ((s : Step) → o ≡ gives s → length (encoded s.result) ≤ 134217728) → Few (o >>= λ s. gives (length (encoded s.result)))
unfolding Few ◌>>=◌ any
step_small (refused n) h k = omega (arith, (by_number {A = Step} follow_numbers 1 22 n (refused n) refl h refl).1)
step_small (gives s) h k = k s refl

step_returned : (o : Answer Step) → length_number (o >>= λ s. gives (length (encoded s.result))) ≡ returned (result_bytes o)
unfolding length_number returned ◌>>=◌
step_returned (refused n) = refl
step_returned (gives s) = refl

module _ {h : Choices} {b : List ℕ} {l : Lent} {held holds : List ℕ} {work left : List (List ℕ)} {r : Result ℕ Refusal} {after : Lent} (f : Follows h b l held work r holds after left) where
  abbrev x : Answer Step
  x = answers (call_of h b held work) l

  -- a result has no more bytes than an edit's
  result_few : (s : Step) → answers (call_of h b held work) l ≡ gives s → length (encoded s.result) ≤ 134217728
  unfolding edit ◌>>=◌
  result_few s e =
      let A = answered (call_of h b held work) l s e in
      let D = step_done h A.memory b s A.steps in
      let is : edit h b ≡ gives s.result = rw (D.accepts, D.plans, D.runs) (ap gives (sym D.result)) in
      omega (arith, encoded_within h b s.result is)

  pub follow_small : Few (answered_by r)
  unfolding answers
  follow_small = rw f.answer (step_small (answers (call_of h b held work) l) (followed_by h (lengths needed work) l b (length held)) result_few)

  pub follow_returned : (z : ℤ) → z ≡ length_number (answered_by r) → ReturnsFollow h b l held work (to_z w64 (of_z w64 z)) holds after left
  follow_returned z q = record {
    answer = ap (λ (y : ℤ). to_z w64 (of_z w64 y)) q ∙ (length_read (answered_by r) follow_small ∙ (ap length_number f.answer ∙ step_returned (answers (call_of h b held work) l)));
    result = f.result;
    memory = f.memory;
    zeros = f.zeros;
  }
