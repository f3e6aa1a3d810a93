-- The last stage: a note is refused, or the plan is made.
-- Assumes nothing.
use mathlib.Core.List.{List, ◌++◌, map}
use mathlib.Core.Option.{Option, none}
use mathlib.Core.Path.{◌≡◌, refl, sym, ap, ◌∙◌, subst}
use Prim.Native.Nat.{ℕ, ◌*◌, ◌≤◌, ◌<◌}
use native.Mathlib.Omega.{arith}
use lib.ListN.{length, take, drop, length-map}
use lib.Seq.{paste, take_at}
use Rattle.orders.specs.Lists.{All}
use Rattle.orders.specs.ListLaws.{All-map}
use Rattle.definition.specs.Basics.{Answer, refused, gives, ◌>>=◌}
use Rattle.definition.specs.Choices.{Choices}
use Rattle.definition.specs.Elements.{Table}
use Rattle.definition.specs.Planning.{Planned}
use Rattle.definition.specs.Rewriting.{mapping}
use Rattle.definition.specs.Running.{ranked, order}
use Rattle.definition_laws.specs.Answers.{gives_inj, refused_gives, both_given}
use Rattle.read_element_table.specs.Told.{length_view}
use Rattle.record_changes.specs.ChangeRow.{rows_of}
use Rattle.record_changes.specs.ChangeRowLaws.{row_at, length_rows_of}
use Rattle.plan_mapping.specs.Mapped.{mapped_by}
use Rattle.plan_notes.specs.Notes.{settled_at, note_words}
use Rattle.plan_notes.specs.Answers.{notes_by, NotesWithin, NotesSettled}
use Rattle.std.specs.Prelude.{Result, Ok, Err}
use Rattle.refusals.specs.declared.Refusal.{Refusal}
use Rattle.refusals.specs.Numbers.{number}
use Rattle.plan_postorder.specs.Order.{running_places}
use Rattle.plan_postorder.specs.Counting.{running_most}
use Rattle.record_rewritten.specs.Stated.{plan_of}
use Rattle.plan_rewrite.specs.Kept.{Kept, rewritten_kept}
use Rattle.read_layout.specs.declared.Layout.{Layout}
use Rattle.plan_model.specs.Running.{running_low, running_told}
use Rattle.plan_model.specs.Noted.{note_held}
use Rattle.plan_model.proofs.Noted.{notes_pasted, length_settled, length_pairs}
use Rattle.plan_model.specs.Ready.{listed_in, mappings_in, notes_in, table_in, Ready, Facts, ready_facts}
use Rattle.plan_model.specs.Outcome.{rows_outcome}
use Rattle.plan_model.proofs.Outcome.{out_notes, out_made}
use Rattle.run_annotations.specs.Notes.{notes_of}
use Rattle.plan_edit.specs.Counted.{discarded_of, discarded_told}
use Rattle.plan_edit.specs.Stages.{Rewrote}
use Rattle.plan_edit.specs.Answers.{planned_by, outcome_in, PlanMade}
use Rattle.plan_edit.specs.declared.Counts.{Counts}
use Rattle.plan_edit.specs.declared.Unplanned.TheVariants.{Refused}

-- ── What was settled ────────────────────────────────────────────────────────────────────────────────────────

is_refused : {A B : Type 0} (a : Answer A) (f : A → Answer B) (k : ℕ) → ((x : A) → (y : B) × (f x ≡ gives y)) → refused k ≡ (a >>= f) → a ≡ refused k
unfolding ◌>>=◌
is_refused (refused n) f k h e = let z : k ≡ n = cc in ap refused (sym z)
is_refused (gives x) f k h e = refused_gives (e ∙ (h x).1)

within_given : (n : ℕ) (a : Answer (List (ℕ × ℕ × ℕ))) (l : List (ℕ × ℕ × ℕ)) → NotesWithin n a → a ≡ gives l → All (λ m. m.0 < n) l
within_given n a l h e = rw e at h

module _ {h : Choices} {b : List ℕ} {l : Layout} {t s : List ℕ} (r : Ready b l t s) {m : List ℕ} {c steps : ℕ} {w : List ℕ} (R : Rewrote h b l t s m c steps w) where
  abbrev n : ℕ
  n = l.sizes.elements

  abbrev T : Table
  T = table_in l t s

  abbrev listed : List ℕ
  listed = listed_in l b

  abbrev facts : Facts b l t s
  facts = ready_facts r

  abbrev settles : Answer (List (ℕ × ℕ × ℕ))
  settles = settled_at T (mapping (mappings_in l b)) 0 (notes_in l b)

  same_settles : settled_at T (mapped_by m) 0 (notes_in l b) ≡ settles
  same_settles = ap (λ (f : ℕ → Option ℕ). settled_at T f 0 (notes_in l b)) R.mappings

  module _ {before after : List ℕ} {q : Result (Unit {0}) Refusal} (N : NotesSettled n t s m (notes_in l b) l.sizes.notes before after q) where
    -- 9 or 10 of a note
    pub notes_refused : (k : Refusal) → q ≡ Err k → (running first : List ℕ) → PlanMade h b l t s w running first (Err (Refused k))
    unfolding planned_by notes_by
    notes_refused k e running first =
        let a : settles ≡ refused (number k) =
        is_refused settles (λ ns. gives (paste before 0 (note_words ns) (3 * l.sizes.notes))) (number k) (λ ns. (_, refl)) (sym (ap (λ (p : Result (Unit {0}) Refusal). notes_by p after) e) ∙ (N.words ∙ rw same_settles)) in
        record { answer = sym (out_notes h facts R.before R.judged R.kept (rows_of c w) steps R.rewrote (number k) a); within = tt; found = record { changes = _; judged = R.judged } }

    rows_kept : All (Kept n T listed) (rows_of c w)
    rows_kept = rewritten_kept n T (mapping (mappings_in l b)) listed (length_view n t s) R.before R.before (rows_of c w, steps) R.kept R.rewrote

    module _ (e : q ≡ Ok tt) {runs discarded : ℕ} {running : List ℕ} (rest : List ℕ) (er : runs ≡ length (running_places w c)) (ew : running ≡ running_places w c ++ rest)
        (ed : (discarded ≡ discarded_of (rows_of c w)) × (discarded ≤ c)) where
      abbrev counts : Counts
      counts = record { recorded = c; changes = c; runs = runs; discarded = discarded; climbs = steps }

      settled_notes : (ns : List (ℕ × ℕ × ℕ)) × (settles ≡ gives ns) × (after ≡ paste before 0 (note_words ns) (3 * l.sizes.notes))
      unfolding notes_by
      settled_notes =
          let g : (settles >>= λ ns. gives (paste before 0 (note_words ns) (3 * l.sizes.notes))) ≡ gives after = sym (sym (ap (λ (p : Result (Unit {0}) Refusal). notes_by p after) e) ∙ (N.words ∙ rw same_settles)) in
          let (ns, a, x) = both_given settles _ g in
          (ns, a, sym (gives_inj x))

      run_places : take runs running ≡ running_places w c
      run_places = rw ew (take_at (running_places w c) rest runs (sym er))

      rows_long : length (map (plan_of listed) (rows_of c w)) ≡ c
      rows_long = length-map (rows_of c w) (plan_of listed) ∙ length_rows_of c w

      -- nothing is refused
      pub plan_made : PlanMade h b l t s w running after (Ok counts)
      unfolding planned_by
      plan_made =
          let (ns, a, x) = settled_notes in
          let low = within_given n settles ns (subst (NotesWithin n) same_settles N.within) a in
          let many : length ns ≡ l.sizes.notes = length_settled T (mapping (mappings_in l b)) 0 (notes_in l b) ns a ∙ length_pairs l.sizes.notes (drop l.noted b) (drop l.numbers b) in
          let notes = ap (λ (v : List ℕ). notes_of l.sizes.notes v) x ∙ notes_pasted before ns l.sizes.notes many in
          let ps : List Planned = map (plan_of listed) (rows_of c w) in
          let runs_told : map (λ k. plan_of listed (row_at w k)) (take runs running) ≡ order (ranked T ps) (length ps) none =
          ap (map (λ k. plan_of listed (row_at w k))) run_places
          ∙ (running_told T listed w c (All-map (λ r k. k.exact) (rows_of c w) rows_kept) ∙ ap (λ (j : ℕ). order (ranked T ps) j none) (sym rows_long)) in
          let none-lost = ed.0 ∙ sym (discarded_told listed (rows_of c w)) in
          let same : outcome_in l b w running after counts ≡ rows_outcome T listed (rows_of c w) steps (map note_held ns) = λ i. record { changes = ps; running = runs_told i; notes = notes i; discarded = none-lost i; climbs = steps } in
          record {
            answer = ap gives same ∙ sym (out_made h facts R.before R.judged R.kept (rows_of c w) steps R.rewrote ns a low);
            within = record {
              few = R.few;
              most = omega (arith, running_most w c);
              fewer = ed.1;
              climbs = R.climbs;
              kept = rows_kept;
              low = rw run_places (running_low w c);
            };
            found = record { changes = _; judged = R.judged };
          }
