-- A later call up to 13: what comes before line 2, and what is known where the run has ended.
-- Assumes nothing.
use Rattle.std.proofs.Math.Path.{◌≡◌, refl, sym, ap}
use Rattle.std.proofs.Common.{◌∙◌, subst, arith}
use Rattle.std.specs.Prelude.{Result, Ok, Err, Bool, List, length}
use Rattle.std.proofs.Math.Bool.{true, false}
use Prim.Native.Nat.{ℕ}
use Rattle.definition.specs.Basics.{Answer, refused, gives, ◌>>=◌, refuse}
use Rattle.definition.specs.Choices.{Choices, chosen}
use Rattle.definition.specs.Refusals.{Accepted, accepted}
use Rattle.definition.specs.Running.{World}
use Rattle.definition.specs.Answers.{too_short, with_choices, Plan, plan, ran}
use Rattle.definition_laws.specs.Answers.{gives_inj, refused_inj, refused_gives, given}
use Rattle.refusals.specs.Numbers.{number}
use Rattle.refusals.specs.declared.Refusal.{Refusal}
use Rattle.promises.specs.Slices.{needed, lengths}
use Rattle.promises.specs.Promises.{with_long}
use Rattle.check_laws.specs.Claimed.{old_tree, flat_of}
use Rattle.series_laws.specs.Memory.{Memory, most_later}
use Rattle.series_laws.specs.Follow.{Step, step}
use Rattle.series_laws.specs.Lent.{Lent, lent, fits, followed}
use Rattle.series_check.specs.Judged.{judged}
use Rattle.series_check.specs.Passed.{judged_ok, judged_err}
use Rattle.series_move.specs.Ready.{step_of}
use Rattle.series_tree.specs.Accepted.{lent_same}
use Rattle.read_layout.specs.declared.Layout.{Layout}
use Rattle.edit_perform.specs.First.{before, stopped_early, nothing_wrong}
use Rattle.edit_perform.specs.Beginning.{LaidOut}
use Rattle.edit_perform.specs.Ending.{End, ending}
use Rattle.edit_perform.specs.AtEnd.{AtEnd, Told, Marked, Performs}
use Rattle.edit_perform.specs.declared.Ended.{Ended}
use Rattle.edit_perform.specs.Stops.{Unplanned, Refused, Overlap}
use Rattle.series_follow.specs.Accepting.{same_as, accepted_on, held_in}

-- ── The definition's way ────────────────────────────────────────────────────────────────────────────────────

-- a later call where none of 17, 18 and 1 refuses
unfoldable pub reached_on : Choices → Lent → List ℕ → ℕ → Answer Step
reached_on h l b room = do
  m ← lent most_later l
  s ← step h m b
  fits room (length l.tree) s

-- the same, once what is performed is known: refused, overlapping (8), or the answer
unfoldable pub afterwards : {A : Type 0} → Result Ended Unplanned → Answer A → Answer A
afterwards (Err (Refused e)) a = refused (number e)
afterwards (Err (Overlap o)) a = refused 8
afterwards (Ok d) a = a

-- how a run that has ended came there
pub record Ran (h : Choices) (b : List ℕ) (e : End) : Type 0 where
  pub accepts : accepted b ≡ gives e.batch
  pub plans : plan h e.batch ≡ gives e.planned
  pub runs : ran e.batch e.planned ≡ gives e.world

pub ended_run : (h : Choices) (b : List ℕ) (e : End) → ending h b ≡ gives e → Ran h b e
unfolding ending
ended_run h b e q =
    given (accepted b) _ q λ a x q.
    given (plan h a) _ q λ p y q.
    given (ran a p) _ q λ w z q.
    subst (Ran h b) (gives_inj q) (record { accepts = x; plans = y; runs = z })

-- ── Before line 2 ───────────────────────────────────────────────────────────────────────────────────────────

module _ (h : Choices) (work : List (ℕ × ℕ)) (l : Lent) {c : Answer (Unit {0})} (e : c ≡ before h work) where
  pub before_first : (n : ℕ) → c ≡ refused n → c ≡ judged (with_choices h work (lent most_later l))
  unfolding judged
  before_first n i = i ∙ sym (ap judged (stopped_early h work (lent most_later l) n (sym e ∙ i)))

  pub before_judged : c ≡ gives tt → {o : Answer (Unit {0})} → o ≡ judged (lent most_later l) → o ≡ judged (with_choices h work (lent most_later l))
  before_judged i q = let (x, t) = nothing_wrong h work (sym e ∙ i) in q ∙ ap judged (sym (with_long h work (lent most_later l) x t))

-- nothing refuses before line 2
pub record Passes (h : Choices) (work : List (List ℕ)) (l : Lent) : Type 0 where
  pub choices : chosen h ≡ gives tt
  pub long : too_short (lengths needed work) ≡ false
  pub memory : Memory
  pub lent : lent most_later l ≡ gives memory

module _ (h : Choices) (work : List (List ℕ)) (l : Lent) {o : Answer (Unit {0})} (e : o ≡ judged (with_choices h (lengths needed work) (lent most_later l))) where
  -- what a refusal tells
  pub before_stops : (n : ℕ) → o ≡ refused n → (b : List ℕ) (room : ℕ) → followed h (lengths needed work) l b room ≡ refused n
  unfolding followed ◌>>=◌
  before_stops n i b room = go (before h (lengths needed work)) refl
    where
      rest : Memory → Answer Step
      rest m = step h m b >>= λ s. fits room (length l.tree) s

      stopped : with_choices h (lengths needed work) (lent most_later l) ≡ refused n
      stopped = judged_err (with_choices h (lengths needed work) (lent most_later l)) n e i

      go : (o : Answer (Unit {0})) → before h (lengths needed work) ≡ o → with_choices h (lengths needed work) (lent most_later l >>= rest) ≡ refused n
      go (refused k) q =
          let x = stopped_early h (lengths needed work) (lent most_later l) k q in
          stopped_early h (lengths needed work) (lent most_later l >>= rest) k q ∙ ap refused (refused_inj (sym x ∙ stopped))
      go (gives u) q =
          let (c, t) = nothing_wrong h (lengths needed work) q in
          let x : lent most_later l ≡ refused n = sym (with_long h (lengths needed work) (lent most_later l) c t) ∙ stopped in
          with_long h (lengths needed work) (lent most_later l >>= rest) c t ∙ rw x refl

  -- and none
  pub before_passes : o ≡ gives tt → Passes h work l
  before_passes i = go (before h (lengths needed work)) refl
    where
      some : (m : Memory) × (with_choices h (lengths needed work) (lent most_later l) ≡ gives m)
      some = judged_ok (with_choices h (lengths needed work) (lent most_later l)) e i

      go : (o : Answer (Unit {0})) → before h (lengths needed work) ≡ o → Passes h work l
      go (refused k) q = refused_gives (sym (stopped_early h (lengths needed work) (lent most_later l) k q) ∙ some.1)
      go (gives u) q =
          let (c, t) = nothing_wrong h (lengths needed work) q in
          record { choices = c; long = t; memory = some.0; lent = sym (with_long h (lengths needed work) (lent most_later l) c t) ∙ some.1 }

-- ── The promise ─────────────────────────────────────────────────────────────────────────────────────────────

-- the run of the batch b on the memory l has ended, and the slices hold what it left, with these counts
pub record EndsOn (h : Choices) (l : Lent) (b t s rows notes changed marks : List ℕ) (d : Ended) : Type 0 where
  pub memory : Memory
  pub passes : lent most_later l ≡ gives memory
  pub ends : AtEnd h b rows notes changed d
  pub same : same_as memory.tree ends.end.batch ≡ true
  pub tells : Told b t s d.elements
  pub marked : Marked h b marks d

-- THE PROMISE of `perform` with the work slices `work`: the definition's refusal, or the end of the run
pub record PerformsOn (h : Choices) (work : List (List ℕ)) (l : Lent) (b t s rows notes changed marks : List ℕ) (r : Result Ended Unplanned) : Type 0 where
  -- what is performed settles the answer but for 13
  pub answers : (room : ℕ) → afterwards r (reached_on h l b room) ≡ followed h (lengths needed work) l b room
  pub long : (d : Ended) → r ≡ Ok d → too_short (lengths needed work) ≡ false
  pub ends : (d : Ended) → r ≡ Ok d → EndsOn h l b t s rows notes changed marks d

-- ── The ways out ────────────────────────────────────────────────────────────────────────────────────────────

-- refused before the end
stops : {h : Choices} {work : List (List ℕ)} {l : Lent} {b t s rows notes changed marks : List ℕ} (f : Refusal) → ((room : ℕ) → followed h (lengths needed work) l b room ≡ refused (number f)) → PerformsOn h work l b t s rows notes changed marks (Err (Refused f))
unfolding afterwards
stops f e = record {
  answers = λ room. sym (e room);
  long = λ d i. absurd (let z : ◌≡◌ {A = ℕ} 0 1 = cc in omega arith);
  ends = λ d i. absurd (let z : ◌≡◌ {A = ℕ} 0 1 = cc in omega arith);
}

-- the answer is the definition's; what is performed has the refusal of that number
pub performs_early : {h : Choices} {work : List (List ℕ)} {l : Lent} {b t s rows notes changed marks : List ℕ} {o : Answer (Unit {0})} → o ≡ judged (with_choices h (lengths needed work) (lent most_later l)) → (f : Refusal) → o ≡ refused (number f) → PerformsOn h work l b t s rows notes changed marks (Err (Refused f))
performs_early {h} {work} {l} {b} e f i = stops f (λ room. before_stops h work l e (number f) i b room)

module _ {h : Choices} {work : List (List ℕ)} {l : Lent} (P : Passes h work l) (b : List ℕ) where
  followed_on : (room : ℕ) → reached_on h l b room ≡ followed h (lengths needed work) l b room
  unfolding reached_on followed
  followed_on room = sym (with_long h (lengths needed work) _ P.choices P.long)

  -- the tree that the slice holds is the memory's
  same_held : (a : Accepted) {q : Bool} → same_as (held_in l.tree) a ≡ q → same_as P.memory.tree a ≡ q
  same_held a e = sym (lent_same most_later l P.memory P.lent (flat_of (old_tree a.trees)) (sym e))

  reached_refused : (k : ℕ) → step h P.memory b ≡ refused k → (room : ℕ) → followed h (lengths needed work) l b room ≡ refused k
  unfolding reached_on ◌>>=◌
  reached_refused k e room = sym (followed_on room) ∙ rw (P.lent, e) refl

  -- 2 to 7 with 16, or 22
  not_accepted_on : (k : ℕ) → accepted_on (held_in l.tree) b ≡ refused k → step h P.memory b ≡ refused k
  unfolding accepted_on step refuse ◌>>=◌
  not_accepted_on k e = go (accepted b) refl
    where
      go : (o : Answer Accepted) → accepted b ≡ o → step h P.memory b ≡ refused k
      go (refused j) q = let z : ◌≡◌ {A = Answer Accepted} (refused j) (refused k) = rw q at e in rw q (ap refused (refused_inj z))
      go (gives a) q = last (same_as (held_in l.tree) a) refl
        where
          last : (t : Bool) → same_as (held_in l.tree) a ≡ t → step h P.memory b ≡ refused k
          last true z = let y : gives a ≡ refused k = rw (q, z) at e in refused_gives (sym y)
          last false z = let y : ◌≡◌ {A = Answer Accepted} (refused 22) (refused k) = rw (q, z) at e in rw (q, same_held a z) (ap refused (refused_inj y))

  -- 8 to 12
  not_ended : (a : Accepted) → accepted b ≡ gives a → same_as (held_in l.tree) a ≡ true → (k : ℕ) → ending h b ≡ refused k → step h P.memory b ≡ refused k
  unfolding ending step refuse ◌>>=◌
  not_ended a x z k e = rw (x, same_held a z) (go (plan h a) (rw x at e))
    where
      ended : Plan → World → Answer End
      ended p w = gives (record { batch = a; planned = p; world = w })

      stepped : Plan → World → Answer Step
      stepped p w = gives (step_of a p w P.memory)

      last : (p : Plan) (o : Answer World) → (o >>= λ w. ended p w) ≡ refused k → (o >>= λ w. stepped p w) ≡ refused k
      last p (refused j) e = ap refused (refused_inj e)
      last p (gives w) e = refused_gives (sym e)

      go : (o : Answer Plan) → (o >>= λ p. ran a p >>= λ w. ended p w) ≡ refused k → (o >>= λ p. ran a p >>= λ w. stepped p w) ≡ refused k
      go (refused j) e = ap refused (refused_inj e)
      go (gives p) e = last p (ran a p) e

  pub performs_unaccepted : {t s rows notes changed marks : List ℕ} (f : Refusal) → accepted_on (held_in l.tree) b ≡ refused (number f) → PerformsOn h work l b t s rows notes changed marks (Err (Refused f))
  performs_unaccepted f e = stops f (reached_refused (number f) (not_accepted_on (number f) e))

  -- what the run of an accepted batch tells
  pub performs_on : {lay : Layout} {t s changes rows notes changed marks : List ℕ} → LaidOut b lay t s → ((a : Accepted) → accepted b ≡ gives a → same_as (held_in l.tree) a ≡ true) → (r : Result Ended Unplanned)
      → Performs h b t s changes rows notes changed marks r → PerformsOn h work l b t s rows notes changed marks r
  unfolding afterwards
  performs_on L f (Err (Refused e)) Q =
      let v = L.leaves in
      stops e (reached_refused (number e) (not_ended v.what v.accepted (f v.what v.accepted) (number e) (Q.refuses e refl).0))
  performs_on L f (Err (Overlap o)) Q =
      let v = L.leaves in
      record {
        answers = λ room. sym (reached_refused 8 (not_ended v.what v.accepted (f v.what v.accepted) 8 (Q.overlaps o.earlier o.later refl).refused8) room);
        long = λ d i. absurd (let z : ◌≡◌ {A = ℕ} 0 1 = cc in omega arith);
        ends = λ d i. absurd (let z : ◌≡◌ {A = ℕ} 0 1 = cc in omega arith);
      }
  performs_on L f (Ok d) Q = record {
    answers = followed_on;
    long = λ e i. P.long;
    ends = λ e i.
        let A = Q.ends e i in
        let a = A.end.batch in
        record { memory = P.memory; passes = P.lent; ends = A; same = same_held a (f a (ended_run h b A.end A.ends).accepts); tells = Q.tells e i; marked = Q.marked e i };
  }
