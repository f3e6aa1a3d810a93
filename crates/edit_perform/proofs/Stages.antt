-- The ways from stage to stage, and out.
-- Assumes nothing.
use Rattle.std.specs.Prelude.{Result, Ok, Err}
use mathlib.Core.Path.{◌≡◌, refl, sym, ap, subst, ◌∙◌}
use mathlib.Core.Bool.{Bool, true, false}
use mathlib.Core.List.{List, ◌++◌}
use Prim.Native.Nat.{ℕ, ◌+◌, ◌-◌, ◌*◌, ◌≤◌, ◌<◌}
use native.Mathlib.Omega.{arith}
use lib.ListN.{length, take, drop, length-append}
use lib.Seq.{take-append-le}
use Rattle.orders.specs.Lists.{All}
use Rattle.definition.specs.Basics.{refused, gives, ◌>>=◌, refuse}
use Rattle.definition.specs.Choices as definition
use Rattle.definition.specs.Choices.{chosen}
use Rattle.definition.specs.Answers.{too_short, with_work, with_choices}
use Rattle.definition.specs.Account.{account}
use Rattle.refusals.specs.Numbers.{number, answered}
use Rattle.refusals.specs.declared.Refusal.{Refusal}
use Rattle.refusals.specs.declared.Refusal.TheVariants.{ShortWork}
use Rattle.read_element_table.specs.View.{view}
use Rattle.plan_mapping.specs.Mapped.{words_at}
use Rattle.record_changes.specs.ChangeRowLaws.{row_at}
use Rattle.read_layout.specs.Layout.{arrays_at}
use Rattle.read_layout.specs.declared.Layout.{Layout}
use Rattle.read_batch.specs.Accepting.{judged_refuses}
use Rattle.read_batch.specs.Leaving.{Judged}
use Rattle.run_prepare.specs.Parts as parts
use Rattle.run_prepare.specs.Parts.{words_in, words_part}
use Rattle.plan_edit.specs.Answers.{Planning}
use Rattle.plan_edit.specs.Left.{plan_refused, fated_accepted, overlap_accepted}
use Rattle.plan_edit.specs.declared.Counts.{Counts}
use Rattle.plan_edit.specs.declared.Unplanned.{Unplanned}
use Rattle.plan_edit.specs.declared.Unplanned.TheVariants.{Refused, Overlap}
use Rattle.run_tree_state.specs.declared.TreeState.{TreeState}
use Rattle.run_execute.specs.Standing.{Begun}
use Rattle.run_execute.specs.Stepping.{Performs as RowPerforms}
use Rattle.run_execute.specs.Running.{lists_all, TextLength, Ran}
use Rattle.edit_perform.specs.Ending.{ending}
use Rattle.edit_perform.specs.First.{before, nothing_wrong}
use Rattle.edit_perform.specs.Beginning.{LaidOut, tells, text_stated}
use Rattle.edit_perform.specs.AtEnd.{AtEnd, Told, Overlapped, Performs}
use Rattle.edit_perform.specs.Performing.{begins, all_perform, room_recorded, all_elements, run_refused, run_ended, run_marked, run_recounted}
use Rattle.edit_perform.specs.Accounting.{not_accepted, overlapping, not_planned}
use Rattle.edit_perform.specs.declared.Ended.{Ended}

-- ── Refused ─────────────────────────────────────────────────────────────────────────────────────────────────

performs_refused : {h : definition.Choices} {b t s changes rows notes changed marks : List ℕ} (e : Refusal) → (ending h b ≡ refused (number e)) × (account h b ≡ refused (number e)) → Performs h b t s changes rows notes changed marks (Err (Refused e))
performs_refused e q = record {
  refuses = λ f i. let same : e ≡ f = cc in (q.0 ∙ ap (λ (g : Refusal). refused (number g)) same, q.1 ∙ ap (λ (g : Refusal). refused (number g)) same);
  overlaps = λ j k i. absurd (let z : ◌≡◌ {A = ℕ} 0 1 = cc in omega arith);
  ends = λ d i. absurd (let z : ◌≡◌ {A = ℕ} 0 1 = cc in omega arith);
  tells = λ d i. absurd (let z : ◌≡◌ {A = ℕ} 0 1 = cc in omega arith);
  marked = λ d i. absurd (let z : ◌≡◌ {A = ℕ} 0 1 = cc in omega arith);
  recounts = λ d i. absurd (let z : ◌≡◌ {A = ℕ} 0 1 = cc in omega arith);
}

-- the two changes of an overlap
earlier_of : Result Ended Unplanned → ℕ
earlier_of (Err (Overlap o)) = o.earlier
earlier_of (Err (Refused e)) = 0
earlier_of (Ok d) = 0

later_of : Result Ended Unplanned → ℕ
later_of (Err (Overlap o)) = o.later
later_of (Err (Refused e)) = 0
later_of (Ok d) = 0

performs_overlap : {h : definition.Choices} {b t s changes rows notes changed marks : List ℕ} (j k : ℕ) → Overlapped h b j k → Performs h b t s changes rows notes changed marks (Err (Overlap (record { earlier = j; later = k })))
unfolding earlier_of later_of
performs_overlap {h} {b} j k o = record {
  refuses = λ f i. absurd (let z : ◌≡◌ {A = ℕ} 0 1 = cc in omega arith);
  overlaps = λ m n i. let x : j ≡ m = ap earlier_of i in let y : k ≡ n = ap later_of i in subst (λ (q : ℕ). Overlapped h b m q) y (subst (λ (q : ℕ). Overlapped h b q k) x o);
  ends = λ d i. absurd (let z : ◌≡◌ {A = ℕ} 0 1 = cc in omega arith);
  tells = λ d i. absurd (let z : ◌≡◌ {A = ℕ} 0 1 = cc in omega arith);
  marked = λ d i. absurd (let z : ◌≡◌ {A = ℕ} 0 1 = cc in omega arith);
  recounts = λ d i. absurd (let z : ◌≡◌ {A = ℕ} 0 1 = cc in omega arith);
}

-- the words that an accepted batch leaves tell of its elements
told_of : {b : List ℕ} {l : Layout} {t s : List ℕ} → LaidOut b l t s → Told b t s l.sizes.elements
told_of {b} {l} L =
    let v = L.leaves in
    let few = v.within.limits.elements in
    let w = tells v (omega (arith, L.long)) (omega (arith, L.long_rows)) in
    record { batch = v.what; accepts = v.accepted; table = v.told; text = (arrays_at l b).text; rows = w.rows_told_lem; formed = v.formed }

-- ── The steps ───────────────────────────────────────────────────────────────────────────────────────────────

module _ {h : definition.Choices} {b : List ℕ} {l : Layout} {t s changes running first : List ℕ} {c : Counts} (L : LaidOut b l t s) (P : Planning h b l t s changes running first (Ok c)) (n : ℕ) (q : n ≡ l.sizes.elements) where
  abbrev settled : List ℕ
  settled = take (3 * l.sizes.notes) first

  -- the bytes that list elements
  abbrev part : List ℕ
  part = take (l.list + 4 * l.sizes.listed - l.list) (drop l.list b)

  told : words_in part ≡ words_at b l.list l.sizes.listed
  unfolding words_at
  told = words_part b l.list l.sizes.listed (l.list + 4 * l.sizes.listed) refl L.leaves.within.list

  pub may_begin : 6147 ≤ length s → 768 ≤ length first → Begun n t s settled
  may_begin ls lf = subst (λ (k : ℕ). Begun k t s settled) (sym q) (begins L.leaves P.made L.long L.long_rows ls lf)

  pub may_state : TextLength n s l.sizes.text
  may_state = subst (λ (k : ℕ). TextLength k s l.sizes.text) (sym q) (text_stated L.leaves L.long L.long_rows)

  pub may_list : (length part ≤ 4096) × All (λ e. e < n) (words_in part)
  may_list =
      let w = L.leaves.within in
      (omega (arith, parts.part_long b l.list l.sizes.listed (l.list + 4 * l.sizes.listed) refl w.list, w.limits.listed), rw (told, q) (all_elements L.leaves P.made))

  pub may_run : All (λ k. RowPerforms n (view n t s) (words_in part) (row_at changes k)) (take c.runs running)
  may_run = rw (told, q) (all_perform L.leaves P.made)

  pub may_record : (room : ℕ) → 1024 ≤ room → lists_all (view n t s) (words_in part) changes (take c.runs running) ≤ room
  may_record room h =
      let z : lists_all (view n t s) (words_in part) changes (take c.runs running) ≤ 1024 = rw (told, q) (room_recorded L.leaves P.made) in
      omega arith

  pub runs_within : 256 ≤ length running → c.runs ≤ length running
  runs_within lr = omega (arith, P.made.within.most, P.made.within.few)

  pub list_within : l.list + 4 * l.sizes.listed ≤ length b
  list_within = L.leaves.within.list

  module _ (ls : 6147 ≤ length s) (lf : 768 ≤ length first) {rows marks notes changed : List ℕ} {x : Result TreeState Refusal}
      (R : Ran n t s settled (words_in part) changes (take c.runs running) rows marks notes changed x) where
    same : Ran l.sizes.elements t s settled (words_at b l.list l.sizes.listed) changes (take c.runs running) rows marks notes changed x
    same =
        subst (λ (listed : List ℕ). Ran l.sizes.elements t s settled listed changes (take c.runs running) rows marks notes changed x) told
        (subst (λ (k : ℕ). Ran k t s settled (words_in part) changes (take c.runs running) rows marks notes changed x) q R)

    pub steps_refused : (f : Refusal) → x ≡ Err f → Performs h b t s changes rows notes changed marks (Err (Refused f))
    steps_refused f e = performs_refused f (run_refused L.leaves P.made L.long L.long_rows ls lf same f e)

    pub steps_ended : (r : TreeState) → x ≡ Ok r → 3072 ≤ length notes
        → Performs h b t s changes rows notes changed marks
        (Ok (record { text = l.text; elements = l.sizes.elements; recorded = c.recorded; rows = r.rows; notes = r.notes; changed = r.changed; discarded = c.discarded; climbs = c.climbs }))
    steps_ended r e ln =
        let d : Ended = record { text = l.text; elements = l.sizes.elements; recorded = c.recorded; rows = r.rows; notes = r.notes; changed = r.changed; discarded = c.discarded; climbs = c.climbs } in
        let v = L.leaves in
        record {
          refuses = λ k i. absurd (let z : ◌≡◌ {A = ℕ} 0 1 = cc in omega arith);
          overlaps = λ j k i. absurd (let z : ◌≡◌ {A = ℕ} 0 1 = cc in omega arith);
          ends = λ y i. let same_end : d ≡ y = cc in subst (AtEnd h b rows notes changed) same_end (run_ended v P.made L.long L.long_rows ls lf same r e ln);
          tells = λ y i.
              let same_end : d ≡ y = cc in
              subst (λ (z : Ended). Told b t s z.elements) same_end (told_of L);
          marked = λ y i. let same_end : d ≡ y = cc in run_marked v P.made L.long L.long_rows ls lf same r e y (ap (λ (z : Ended). z.elements) (sym same_end));
          recounts = λ y i. let same_end : d ≡ y = cc in run_recounted v P.made L.long L.long_rows ls lf same P.withdrew.1 P.withdrew.0 r e y (ap (λ (z : Ended). z.recorded) (sym same_end));
        }

-- what stands behind the marks of the batch's elements says nothing
pub marks_behind : {h : definition.Choices} {b t s changes rows notes changed marks : List ℕ} {r : Result Ended Unplanned} (behind : List ℕ) → Performs h b t s changes rows notes changed marks r → Performs h b t s changes rows notes changed (marks ++ behind) r
marks_behind {marks = marks} behind p = record {
  refuses = p.refuses;
  overlaps = p.overlaps;
  ends = p.ends;
  tells = p.tells;
  marked = λ d i. let m = p.marked d i in record { end = m.end; ends = m.ends; long = omega (arith, m.long, length-append marks behind); told = take-append-le d.elements marks behind m.long ∙ m.told };
  recounts = p.recounts;
}

-- ── Refused before them ─────────────────────────────────────────────────────────────────────────────────────

module _ {h : definition.Choices} {b : List ℕ} {l : Layout} {t s changes running first : List ℕ} {r : Result Counts Unplanned} (P : Planning h b l t s changes running first r) where
  pub plan_stops : {rows notes changed marks : List ℕ} → LaidOut b l t s → (u : Unplanned) → r ≡ Err u → Performs h b t s changes rows notes changed marks (Err u)
  plan_stops L (Refused f) e =
      let Q : Planning h b l t s changes running first (Err (Refused f)) = subst (Planning h b l t s changes running first) e P in
      let a = L.leaves.what in
      let x = L.leaves.accepted in
      performs_refused f (not_planned h b a x Q.made.found.changes (fated_accepted h b Q.made.found.changes a x Q.made.found.judged) (number f) (plan_refused a x Q.made))
  plan_stops L (Overlap p) e =
      let Q : Planning h b l t s changes running first (Err (Overlap p)) = subst (Planning h b l t s changes running first) e P in
      let a = L.leaves.what in
      let x = L.leaves.accepted in
      let o = overlapping h b a x p.earlier p.later (overlap_accepted h b p.earlier p.later a x Q.made.found) in
      performs_overlap p.earlier p.later (record { refused8 = o.0; text = o.1 })

  pub plan_made : (c : Counts) → r ≡ Ok c → Planning h b l t s changes running first (Ok c)
  plan_made c e = subst (Planning h b l t s changes running first) e P

module _ {h : definition.Choices} {b t₀ s₀ t s : List ℕ} {r : Result Layout Refusal} (J : Judged b t₀ s₀ t s r) where
  pub judged_stops : {changes rows notes changed marks : List ℕ} (f : Refusal) → r ≡ Err f → Performs h b t s changes rows notes changed marks (Err (Refused f))
  unfolding answered
  judged_stops f e = performs_refused f (not_accepted h b (number f) (judged_refuses b (number f) (sym J.answer ∙ ap answered e)))

-- ── Refused before anything is read ─────────────────────────────────────────────────────────────────────────

-- 17, 18, 1, or none
module _ (h : definition.Choices) (work : List (ℕ × ℕ)) {c : Result (Unit {0}) Refusal} (e : answered c ≡ chosen h) where
  pub wrong_choice : (f : Refusal) → c ≡ Err f → answered (Err f) ≡ before h work
  unfolding answered with_choices ◌>>=◌
  wrong_choice f i = let x : chosen h ≡ refused (number f) = sym e ∙ ap answered i in rw x refl

  module _ (i : c ≡ Ok tt) (t : Bool) (f : t ≡ too_short work) where
    well_chosen : chosen h ≡ gives tt
    unfolding answered
    well_chosen = sym e ∙ ap answered i

    pub refused_1 : t ≡ true → answered (Err ShortWork) ≡ before h work
    unfolding answered number with_choices with_work refuse ◌>>=◌
    refused_1 q = rw (well_chosen, sym f ∙ q) refl

    pub refused_0 : t ≡ false → answered (Ok tt) ≡ before h work
    unfolding answered with_choices with_work refuse ◌>>=◌
    refused_0 q = rw (well_chosen, sym f ∙ q) refl

-- what is answered before everything else: the refusal
module _ (h : definition.Choices) (work : List (ℕ × ℕ)) {r : Result (Unit {0}) Refusal} (e : answered r ≡ before h work) where
  pub early_refused : (f : Refusal) → r ≡ Err f → before h work ≡ refused (number f)
  unfolding answered
  early_refused f i = sym e ∙ ap answered i

  -- or nothing
  pub early_passed : r ≡ Ok tt → (chosen h ≡ gives tt) × (too_short work ≡ false)
  unfolding answered
  early_passed i = nothing_wrong h work (sym e ∙ ap answered i)
