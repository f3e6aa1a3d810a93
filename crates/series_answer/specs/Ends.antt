-- Where the run of a batch on a memory has ended: 13, or what is written.
-- Assumes nothing.
use Rattle.std.proofs.Math.Path.{◌≡◌, refl, sym, ap, subst}
use Rattle.std.proofs.Common.{◌∙◌, zero-add, arith, take_all}
use Rattle.std.specs.Prelude.{Result, Ok, Err, Bool, ℕ, ◌≤◌, drop}
use Rattle.std.proofs.Math.Bool.{true, false}
use mathlib.Core.List.{List, map}
use Rattle.std.proofs.Math.Dec.{ltb}
use Rattle.std.proofs.Math.ListN.{length}
use Rattle.definition.specs.Basics.{Answer, refused, gives, ◌>>=◌, refuse}
use Rattle.definition.specs.Choices.{Choices}
use Rattle.definition.specs.Refusals.{Accepted}
use Rattle.definition.specs.Finishing.{fitting, encoded}
use Rattle.definition_laws.specs.Answers.{gives_inj, refused_gives}
use Rattle.definition_laws.specs.Running.{top}
use Rattle.rows_model.specs.Row.{first_rows, rows_of}
use Rattle.rows_model.specs.Place.{mark_of}
use Rattle.run_annotations.specs.Notes.{notes_of}
use Rattle.run_annotations.specs.Changed.{changed_in}
use Rattle.run_model.specs.Store.{Store, store}
use Rattle.run_tree_store.specs.Stored.{stored}
use Rattle.finish_model.specs.Finished.{result_of}
use Rattle.finish_result.specs.Answered.{fitted, over_front, Answered, answered_result}
use Rattle.refusals.specs.Numbers.{number, answered}
use Rattle.refusals.specs.declared.Refusal.{Refusal}
use Rattle.refusals.specs.declared.Refusal.TheVariants.{ShortResult, Overlap as Overlaps}
use Rattle.edit_perform.specs.Stops.{Unplanned, Refused, Overlap}
use Rattle.promises.specs.Promises as promises
use Rattle.promises.specs.Promises.{applied}
use Rattle.edit_perform.specs.Ending.{End}
use Rattle.edit_perform.specs.declared.Ended.{Ended}
use Rattle.series_laws.specs.Follow.{Step}
use Rattle.series_laws.specs.Lent.{tree_bytes, fits, left_in}
use Rattle.series_laws.proofs.Passing.{Done}
use Rattle.series_move.specs.Ready.{LeftBy, step_of, done_of, step_of_lem}
use Rattle.series_tree.specs.New.{new_in, room_left}
use Rattle.series_leave.specs.Leaving.{lent_of, Leaving}
use Rattle.series_follow.specs.Performing.{ended_run, Ran, reached_on, afterwards, EndsOn}
use Rattle.series_answer.specs.Telling.{TellsOn, tells_refused, tells_gives}

-- an answer's bytes over the front of a buffer, and beyond them what it held
left_over : (held : List ℕ) (a : Answer (List ℕ)) → over_front held a ≡ promises.left_in held a
unfolding over_front promises.left_in
left_over held (refused n) = refl
left_over held (gives bytes) = rw (take_all (length bytes) bytes (omega arith), zero-add (length bytes)) refl

-- the run has ended, so that the call can be answered
pub record ToLeave (h : Choices) (tree bookmarks b s rows notes changed marks starts : List ℕ) (d : Ended) : Type 0 where
  pub table : List ℕ
  pub ends : EndsOn h (lent_of tree bookmarks) b table s rows notes changed marks d
  pub room : 12288 ≤ length starts

-- if it has
pub record ToAnswer (h : Choices) (tree bookmarks b s rows notes changed marks starts : List ℕ) (p : Result Ended Unplanned) : Type 0 where
  pub leaves : (d : Ended) → p ≡ Ok d → ToLeave h tree bookmarks b s rows notes changed marks starts d

module _ {h : Choices} {tree bookmarks b s rows notes changed marks starts : List ℕ} {d : Ended} (v : ToLeave h tree bookmarks b s rows notes changed marks starts d) where
  way : Ran h b v.ends.ends.end
  way = ended_run h b v.ends.ends.end v.ends.ends.ends

  -- what the batch comes to
  abbrev pub step_at : Step
  step_at = step_of v.ends.ends.end.batch v.ends.ends.end.planned v.ends.ends.end.world v.ends.memory

  abbrev done : Done h v.ends.memory b step_at
  done = done_of h v.ends.memory b v.ends.ends.end.batch v.ends.ends.end.planned v.ends.ends.end.world way.accepts v.ends.same way.plans way.runs

  -- but for 13
  reached_fits : (room : ℕ) → reached_on h (lent_of tree bookmarks) b room ≡ fits room (length tree) step_at
  unfolding reached_on ◌>>=◌
  reached_fits room =
      rw (v.ends.passes, step_of_lem h v.ends.memory b v.ends.ends.end.batch v.ends.ends.end.planned v.ends.ends.end.world way.accepts v.ends.same way.plans way.runs) refl

  -- ── The rows ──

  module _ (text : List ℕ) (t : text ≡ drop d.text b) where
    new_rows_lem : first_rows text d.rows rows ≡ rows_of v.ends.ends.end.world.trees
    unfolding store stored
    new_rows_lem = ap (λ (x : List ℕ). first_rows x d.rows rows) t ∙ ap (λ (s : Store). s.rows) (sym v.ends.ends.held)

    left_by : LeftBy v.ends.ends.end.batch.trees v.ends.ends.end.world s d.elements marks rows d.rows
    left_by =
        let A = v.ends.ends in
        let T = v.ends.tells in
        let M = v.ends.marked in
        let same : M.end ≡ A.end = gives_inj (sym M.ends ∙ A.ends) in
        let batch : T.batch ≡ A.end.batch = gives_inj (sym T.accepts ∙ way.accepts) in
        record {
          old_text = T.text;
          old = T.rows ∙ ap (λ (a : Accepted). rows_of (top a.trees)) batch;
          new_text = text;
          new = new_rows_lem;
          told = M.told ∙ ap (λ (e : End). map (mark_of e.world.trees) e.world.paths) same;
          many = M.long;
          long_old = omega (arith, T.formed.long);
          long_new = A.rows_within;
          few = omega (arith, T.formed.lines.few);
          few_new = A.few_rows;
        }

    -- ── 13 ──

    module _ {q : Bool} (r : q ≡ ltb (length tree) (tree_bytes (length (new_in text d.rows rows).kinds) (length (new_in text d.rows rows).text))) where
      lacks : q ≡ ltb (length tree) (tree_bytes (length step_at.memory.tree.kinds) (length step_at.memory.tree.text))
      lacks = room_left done text d.rows rows new_rows_lem (length tree) r

      -- the memory cannot hold the new tree
      pub ends_full : q ≡ true → (held : List ℕ) → TellsOn (reached_on h (lent_of tree bookmarks) b (length held)) (lent_of tree bookmarks) held (Err ShortResult) held (lent_of tree bookmarks)
      unfolding number fits fitting refuse ◌>>=◌
      ends_full z held = tells_refused ShortResult (reached_fits (length held) ∙ go (ltb (length held) (length (encoded step_at.result))) refl)
        where
          go : (x : Bool) → ltb (length held) (length (encoded step_at.result)) ≡ x → fits (length held) (length tree) step_at ≡ refused 13
          go true e = rw e refl
          go false e = rw (e, sym lacks ∙ z) refl

      -- it can: the memory may be written
      unfoldable leaving : q ≡ false → Leaving s d.elements marks rows d.rows text tree bookmarks
      leaving z = record {
        choices = h;
        batch = b;
        memory = v.ends.memory;
        step = step_at;
        done = done;
        passes = v.ends.passes;
        room = sym lacks ∙ z;
        left = left_by;
        told = new_rows_lem;
        some_rows = v.ends.ends.some_rows;
        few_bytes = v.ends.ends.few_bytes text;
      }

      pub ends_leaving : q ≡ false → Leaving s d.elements marks rows d.rows text tree bookmarks
      ends_leaving = leaving

      module _ (z : q ≡ false) {held out : List ℕ} (a : Result ℕ Refusal)
          (f : (marks : List ℕ) → Answered held (result_of d.discarded d.climbs (stored text d.rows rows marks (notes_of d.notes notes) (changed_in d.changed changed))) out a) where
        -- what is answered is the answer of the definition's result
        finished : Answered held step_at.result out a
        finished =
            let A = v.ends.ends in
            let E = A.end in
            let g : Answered held (result_of d.discarded d.climbs (stored (drop d.text b) d.rows rows A.marks (notes_of d.notes notes) (changed_in d.changed changed))) out a = rw (← t) (f A.marks) in
            let k : Answered held (result_of _ E.planned.climbs _) out a = rw (A.discarded, A.climbs) at g in
            answered_result E.planned.changes E.planned.climbs E.world A.holds A.held k

        module _ (x : Bool) (e : ltb (length held) (length (encoded step_at.result)) ≡ x) where
          short : x ≡ true → (reached_on h (lent_of tree bookmarks) b (length held) ≡ refused 13) × (answered a ≡ refused 13) × (out ≡ held)
          unfolding fits fitting fitted over_front refuse ◌>>=◌
          short y =
              let no : fitted (length held) step_at.result ≡ refused 13 = rw (e ∙ y) refl in
              (reached_fits (length held) ∙ rw (e ∙ y) refl, finished.answer ∙ rw no refl, finished.result ∙ rw no refl)

          wrote : x ≡ false → (reached_on h (lent_of tree bookmarks) b (length held) ≡ gives step_at) × (answered a ≡ gives (length (encoded step_at.result))) × (out ≡ promises.left_in held (gives (encoded step_at.result)))
          unfolding fits fitting fitted refuse ◌>>=◌
          wrote y =
              let yes : fitted (length held) step_at.result ≡ gives (encoded step_at.result) = rw (e ∙ y) refl in
              (reached_fits (length held) ∙ rw (e ∙ y, sym lacks ∙ z) refl, finished.answer ∙ rw yes refl, finished.result ∙ (ap (over_front held) yes ∙ left_over held (gives (encoded step_at.result))))

        -- the result slice is too short
        pub ends_short : (f : Refusal) → a ≡ Err f → TellsOn (reached_on h (lent_of tree bookmarks) b (length held)) (lent_of tree bookmarks) held (Err f) out (lent_of tree bookmarks)
        unfolding answered
        ends_short f i = go (ltb (length held) (length (encoded step_at.result))) refl
          where
            go : (x : Bool) → ltb (length held) (length (encoded step_at.result)) ≡ x → TellsOn (reached_on h (lent_of tree bookmarks) b (length held)) (lent_of tree bookmarks) held (Err f) out (lent_of tree bookmarks)
            go true e =
                let (p, q, r) = short true e refl in
                let y : ◌≡◌ {A = Answer ℕ} (refused (number f)) (refused 13) = sym (ap answered i) ∙ q in
                let same : number f ≡ 13 = cc in
                subst (λ (o : List ℕ). TellsOn (reached_on h (lent_of tree bookmarks) b (length held)) (lent_of tree bookmarks) held (Err f) o (lent_of tree bookmarks)) (sym r) (tells_refused f (p ∙ ap refused (sym same)))
            go false e =
                let (p, q, r) = wrote false e refl in
                refused_gives (sym (ap answered i) ∙ q)

        -- both are written
        pub ends_written : (n : ℕ) → a ≡ Ok n → {tree' bookmarks' : List ℕ} → ((w : Leaving s d.elements marks rows d.rows text tree bookmarks) → lent_of tree' bookmarks' ≡ left_in (lent_of tree bookmarks) w.step.memory)
            → TellsOn (reached_on h (lent_of tree bookmarks) b (length held)) (lent_of tree bookmarks) held (Ok n) out (lent_of tree' bookmarks')
        unfolding answered leaving
        ends_written n i {tree'} {bookmarks'} g = go (ltb (length held) (length (encoded step_at.result))) refl
          where
            go : (x : Bool) → ltb (length held) (length (encoded step_at.result)) ≡ x → TellsOn (reached_on h (lent_of tree bookmarks) b (length held)) (lent_of tree bookmarks) held (Ok n) out (lent_of tree' bookmarks')
            go true e =
                let (p, q, r) = short true e refl in
                refused_gives (sym q ∙ ap answered i)
            go false e =
                let (p, q, r) = wrote false e refl in
                tells_gives step_at p (gives_inj (sym (ap answered i) ∙ q)) r (g (leaving z))

-- ── What is performed ───────────────────────────────────────────────────────────────────────────────────────

module _ {p : Result Ended Unplanned} (want : Answer Step) where
  pub after_refused : {u : Unplanned} {e : Refusal} → p ≡ Err u → u ≡ Refused e → afterwards p want ≡ refused (number e)
  unfolding afterwards
  after_refused e i = rw (e, i) refl

  pub after_overlap : {u : Unplanned} {j k : ℕ} → p ≡ Err u → u ≡ Overlap (record { earlier = j; later = k }) → afterwards p want ≡ refused (number Overlaps)
  unfolding afterwards number
  after_overlap e i = rw (e, i) refl

  pub after_done : {d : Ended} → p ≡ Ok d → want ≡ afterwards p want
  unfolding afterwards
  after_done e = rw e refl
